-- The classes of document 02, A.6: each value of a mentioned field is a class of its own, all values of another field are one.
use Rattle.std.specs.Prelude.{ℕ, suc, cond, List, [], ◌∷◌}
use Rattle.fields.specs.Tables.{Table, joint_sizes}
use Rattle.policy.specs.NodeLists.{NodeLists}
use Rattle.policy.specs.Mentions.{mentioned, core_sizes}
use Rattle.classes.specs.Classing.{Classing}

-- the classes of the fields with these sizes, by what the policies mention; an unmentioned field shows 0
abbrev pub by_mention : List NodeLists → List ℕ → Classing
by_mention Ls sizes =
    record {
      counts = core_sizes Ls sizes;
      class = λ f v. cond (mentioned Ls f) v 0;
      shown = λ f x. cond (mentioned Ls f) x 0;
    }

-- the classes of a call with these tables and a left and a right policy
abbrev pub pair_classes : List Table → NodeLists → NodeLists → Classing
pair_classes ts L R = by_mention (L ∷ R ∷ []) (joint_sizes ts)

-- the entries of the mentioned fields in their order, the first entry being that of field f
unfoldable pub mentioned_of : List NodeLists → ℕ → List ℕ → List ℕ
mentioned_of Ls f [] = []
mentioned_of Ls f (x ∷ xs) = cond (mentioned Ls f) (x ∷ mentioned_of Ls (suc f) xs) (mentioned_of Ls (suc f) xs)
