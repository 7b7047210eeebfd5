-- The definitions at small tables, by computation.
use Prim.Native.Nat.{ℕ, ◌-◌}
use mathlib.Core.List.{List, [], ◌∷◌, ◌++◌}
use Rattle.std.specs.Prelude.{Option, None, Some}
use mathlib.Core.Path.{◌≡◌, refl}
use lib.ListN.{length, replicate}
use Rattle.packet.specs.Refusals.{Tested}
use Rattle.std.specs.Prelude.{Ok, Err}
use Rattle.packet.specs.Lowest.{lowest, or_at}
use Rattle.packet.specs.Refusals.{refusal, refused_at, at_place, first_refused}
use Rattle.packet.specs.Sizes.{bad_count, zero_size, fields_stage}
use Rattle.fields.specs.Bytes.{is_small, is_digit}
use Rattle.fields.specs.Names.{field_named, is_named, cell_name, names_from, names_in, is_constant, all_small_or_digit, well_formed, bad_name}
use Rattle.fields.specs.Tables.{Table, table, fields_from, fields_of, with_field, with_fields, with_tables, joint, joint_names, joint_sizes, names_for, any_table, mismatched, names_stage, another, other_size, sizes_stage, is_empty, tables_stage}

abbrev cell : List ℕ → List ℕ
cell w = length w ∷ w ++ replicate (15 - length w) 0

abbrev cells : List (List ℕ) → List ℕ
cells [] = []
cells (w ∷ ws) = cell w ++ cells ws

abbrev named : List (List ℕ) → List ℕ → Table
named ws sizes = table (cells ws) sizes

abbrev sw : List ℕ
sw = 115 ∷ 119 ∷ []

abbrev port : List ℕ
port = 112 ∷ 111 ∷ 114 ∷ 116 ∷ []

abbrev vlan : List ℕ
vlan = 118 ∷ 108 ∷ 97 ∷ 110 ∷ []

-- a to h, and i
abbrev eight : List (List ℕ)
eight = (97 ∷ []) ∷ (98 ∷ []) ∷ (99 ∷ []) ∷ (100 ∷ []) ∷ (101 ∷ []) ∷ (102 ∷ []) ∷ (103 ∷ []) ∷ (104 ∷ []) ∷ []

abbrev ninth : List ℕ
ninth = 105 ∷ []

-- what the causes say, which computes where it is opened
unfoldable says : Table → Table → Tested
unfolding tables_stage first_refused refused_at at_place any_table mismatched names_stage lowest or_at bad_name well_formed all_small_or_digit is_small is_digit is_constant is_named field_named names_in names_from cell_name sizes_stage other_size another is_empty fields_stage bad_count zero_size joint_sizes joint with_tables with_fields with_field fields_of fields_from
says left right = tables_stage (left ∷ right ∷ [])

-- the field of a word in a text over one of two tables
unfoldable field_of : Table → Table → Table → List ℕ → Option ℕ
unfolding says names_for joint_names
field_of left right side w = field_named (names_for (left ∷ right ∷ []) side) w

-- left sw, sw
name_twice : says (named (sw ∷ sw ∷ []) (2 ∷ 2 ∷ [])) (named (sw ∷ []) (2 ∷ [])) ≡ Err (refusal 20 1 1)
unfolding says refusal
name_twice = refl

-- right dup
constant_name : says (named (sw ∷ []) (2 ∷ [])) (named ((100 ∷ 117 ∷ 112 ∷ []) ∷ []) (1 ∷ [])) ≡ Err (refusal 20 2 0)
unfolding says refusal
constant_name = refl

-- left sw=2,port=4, right port=5,sw=2
two_sizes : says (named (sw ∷ port ∷ []) (2 ∷ 4 ∷ [])) (named (port ∷ sw ∷ []) (5 ∷ 2 ∷ [])) ≡ Err (refusal 21 1 1)
unfolding says refusal
two_sizes = refl

-- left a=1, right b=0: the joint field 1 has size 0
zero_size_lem : says (named ((97 ∷ []) ∷ []) (1 ∷ [])) (named ((98 ∷ []) ∷ []) (0 ∷ [])) ≡ Err (refusal 2 0 1)
unfolding says refusal
zero_size_lem = refl

-- one name with sizes 2 and 0: 21, not 2
two_sizes_first : says (named (sw ∷ []) (2 ∷ [])) (named (sw ∷ []) (0 ∷ [])) ≡ Err (refusal 21 1 0)
unfolding says refusal
two_sizes_first = refl

-- an empty table: 1
no_names : says (named (sw ∷ []) (2 ∷ [])) (named [] []) ≡ Err (refusal 1 0 0)
unfolding says refusal
no_names = refl

eight_in_both : says (named eight (replicate 8 1)) (named eight (replicate 8 1)) ≡ Ok tt
unfolding says
eight_in_both = refl

-- eight and one other
nine_joint : says (named eight (replicate 8 1)) (named (ninth ∷ []) (1 ∷ [])) ≡ Err (refusal 1 0 0)
unfolding says refusal
nine_joint = refl

-- nine left names, the last one bad: Ii
ninth_bad : says (named (eight ++ ((73 ∷ 105 ∷ []) ∷ [])) (replicate 9 1)) (named (sw ∷ []) (2 ∷ [])) ≡ Err (refusal 20 1 8)
unfolding says refusal
ninth_bad = refl

-- 16 bytes and two sizes
not_16_a_name : says (named (sw ∷ []) (2 ∷ 2 ∷ [])) (named (sw ∷ []) (2 ∷ [])) ≡ Err (refusal 4 0 0)
unfolding says refusal
not_16_a_name = refl

-- a length byte of 16 before 15 letters
too_long : says (table (16 ∷ replicate 15 97) (1 ∷ [])) (named (sw ∷ []) (2 ∷ [])) ≡ Err (refusal 20 1 0)
unfolding says refusal
too_long = refl

-- Left sw, port, right vlan, port, sw: vlan is field 2 in a text on the right, and no field on the left.
joint_names_lem : joint_names (named (sw ∷ port ∷ []) (2 ∷ 4 ∷ []) ∷ named (vlan ∷ port ∷ sw ∷ []) (3 ∷ 4 ∷ 2 ∷ []) ∷ []) ≡ sw ∷ port ∷ vlan ∷ []
unfolding says joint_names
joint_names_lem = refl

right_vlan : field_of (named (sw ∷ port ∷ []) (2 ∷ 4 ∷ [])) (named (vlan ∷ port ∷ sw ∷ []) (3 ∷ 4 ∷ 2 ∷ [])) (named (vlan ∷ port ∷ sw ∷ []) (3 ∷ 4 ∷ 2 ∷ [])) vlan ≡ Some 2
unfolding field_of
right_vlan = refl

left_vlan : field_of (named (sw ∷ port ∷ []) (2 ∷ 4 ∷ [])) (named (vlan ∷ port ∷ sw ∷ []) (3 ∷ 4 ∷ 2 ∷ [])) (named (sw ∷ port ∷ []) (2 ∷ 4 ∷ [])) vlan ≡ None
unfolding field_of
left_vlan = refl
