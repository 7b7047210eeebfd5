-- Turning packets: the causes of the tables and of both policies and 3, then 13 (document 01, "Packets" and "Causes, in the order tested"; document 02,
-- A.4 and A.6).
use Rattle.std.specs.Prelude.{ℕ, Bool, cond, not, List, [], ◌∷◌, Result, Ok, Err, leb, eqb, length, get_or}
use Rattle.packet.specs.Refusals.{Tested}
use Rattle.packet.specs.declared.Refusal.{Refusal}
use Rattle.packet.specs.Lowest.{lowest}
use Rattle.packet.specs.Refusals.{refused_at, at_place, at_zero, first_refused}
use Rattle.packet.specs.Sizes.{product, counted}
use Rattle.fields.specs.Tables.{Table, joint_sizes}
use Rattle.policy.specs.NodeLists.{NodeLists}
use Rattle.policy.specs.Order.{in_order, stages_of, pair_of, pair_core}
use Rattle.classes.specs.Classing.{class_number, shown_packet}
use Rattle.classes.specs.Mentioned.{pair_classes}

-- a value list whose length is not k is refused by 13 with place k, before the rest of 13
unfoldable pub length_test : ℕ → ℕ → Tested
length_test k len = refused_at 13 0 (at_place k (not (eqb len k)))

-- 13 of a number into so many values: the number turned is N or more, place 0
unfoldable pub number_stage : ℕ → ℕ → ℕ → ℕ → Tested
number_stage k count number len = first_refused (length_test k len ∷ refused_at 13 0 (at_zero (leb count number)) ∷ [])

-- the tests of a number into values
unfoldable pub values_tests : List Table → NodeLists → NodeLists → ℕ → ℕ → Tested
values_tests ts L R number len = in_order (stages_of ts (Ok tt) (pair_of L R) (Ok tt) (number_stage (length (joint_sizes ts)) (product (pair_core ts L R)) number len))

-- what the lent list holds after the tests: the values shown for the packet, or what it held before
unfoldable pub kept_unless : Tested → List ℕ → List ℕ → List ℕ
kept_unless (Ok _) new old = new
kept_unless (Err r) new old = old

unfoldable pub values_left : List Table → NodeLists → NodeLists → ℕ → List ℕ → List ℕ
values_left ts L R number old = kept_unless (values_tests ts L R number (length old)) (shown_packet (pair_classes ts L R) number) old

-- the value of field i is out of range
unfoldable pub bad_value : List ℕ → List ℕ → ℕ → Bool
bad_value sizes values i = leb (get_or sizes i 0) (get_or values i 0)

-- 13 of values into a number: the lowest field, mentioned or not, whose value is not below its declared size
unfoldable pub values_stage : List ℕ → List ℕ → Tested
values_stage sizes values = first_refused (length_test (length sizes) (length values) ∷ refused_at 13 0 (lowest (bad_value sizes values) (length sizes)) ∷ [])

-- the class of a value, from the number of classes: by A.6 a field with one class has class 0, another the value itself
unfoldable pub class_in : ℕ → ℕ → ℕ
class_in count value = cond (eqb count 1) 0 value

unfoldable pub classes_in : List ℕ → List ℕ → List ℕ
classes_in [] values = []
classes_in (c ∷ cs) [] = []
classes_in (c ∷ cs) (v ∷ vs) = class_in c v ∷ classes_in cs vs

-- the tests of values into a number
unfoldable pub number_tests : List Table → NodeLists → NodeLists → List ℕ → Tested
number_tests ts L R values = in_order (stages_of ts (Ok tt) (pair_of L R) (Ok tt) (values_stage (joint_sizes ts) values))

-- the answer to values: the number of the packet of classes that they belong to
unfoldable pub number_call : List Table → NodeLists → NodeLists → List ℕ → Result ℕ Refusal
number_call ts L R values = counted (number_tests ts L R values) (class_number (pair_classes ts L R) values)
