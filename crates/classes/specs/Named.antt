-- The classes of document 02, A.7: each value that is named is a class of its own, all other values of its field are one last class; so all values of a
-- field that nobody mentions are one class (A.6).
use Rattle.std.specs.Prelude.{ℕ, suc, Bool, true, false, cond, List, [], ◌∷◌, eqb, ltb, length, get_or}
use Rattle.fields.specs.Tables.{Table, joint_sizes}
use Rattle.policy.specs.NodeLists.{NodeLists}
use Rattle.policy.specs.NamedValues.{named_values, core_sizes}
use Rattle.classes.specs.Classing.{Classing, on_classes}

-- the place of a value in a list; the list's length, if it is not in it
unfoldable pub place_in : ℕ → List ℕ → ℕ
place_in v [] = 0
place_in v (w ∷ ws) = cond (eqb v w) 0 (suc (place_in v ws))

-- the lowest value from v on that is not among ascending values, of which none is below v
unfoldable pub unnamed_from : ℕ → List ℕ → ℕ
unnamed_from v [] = v
unnamed_from v (w ∷ ws) = cond (eqb v w) (unnamed_from (suc v) ws) v

-- the value shown for class x of a field with these named values: "the lowest unnamed value for the last class"
unfoldable pub shown_in : List ℕ → ℕ → ℕ
shown_in names x = cond (ltb x (length names)) (get_or names x 0) (unnamed_from 0 names)

-- the classes of the fields with these sizes, by what the policies name
abbrev pub by_name : List NodeLists → List ℕ → Classing
by_name Ls sizes =
    record {
      counts = core_sizes Ls sizes;
      class = λ f v. place_in v (named_values Ls f);
      shown = λ f x. shown_in (named_values Ls f) x;
    }

-- the classes of a call with these tables and a left and a right policy
abbrev pub pair_classes : List Table → NodeLists → NodeLists → Classing
pair_classes ts L R = by_name (L ∷ R ∷ []) (joint_sizes ts)

-- the two policies on their classes
abbrev pub left_core : List Table → NodeLists → NodeLists → NodeLists
left_core ts L R = on_classes (pair_classes ts L R) L

abbrev pub right_core : List Table → NodeLists → NodeLists → NodeLists
right_core ts L R = on_classes (pair_classes ts L R) R

-- "a field is mentioned if a test or change of it stands in either policy": a value of it is named
unfoldable pub is_some : List ℕ → Bool
is_some [] = false
is_some (v ∷ vs) = true

unfoldable pub mentioned : List NodeLists → ℕ → Bool
mentioned Ls f = is_some (named_values Ls f)

-- the entries of the mentioned fields in their order, the first entry being that of field f
unfoldable pub mentioned_of : List NodeLists → ℕ → List ℕ → List ℕ
mentioned_of Ls f [] = []
mentioned_of Ls f (x ∷ xs) = cond (mentioned Ls f) (x ∷ mentioned_of Ls (suc f) xs) (mentioned_of Ls (suc f) xs)
