-- The kinds of the nodes that a constant and a comparison make, and the token at the front.
use Rattle.std.specs.Prelude.{ℕ, List, [], ◌∷◌, Option, None, Some}
use Rattle.grammar.specs.declared.Token.{Token}
use Rattle.grammar.specs.declared.Constant.{Constant}
use Rattle.grammar.specs.declared.Constant.TheVariants.{Drop, Id, Dup}
use Rattle.grammar.specs.declared.Comparison.{Comparison}
use Rattle.grammar.specs.declared.Comparison.TheVariants.{Equal, Different, Assigned}
use Rattle.grammar.specs.Tokens.{Placed}

-- the kind of the node that a constant is
unfoldable pub constant_kind : Constant → ℕ
constant_kind Drop = 0
constant_kind Id = 1
constant_kind Dup = 5

-- the kind of the node that a comparison makes
unfoldable pub comparison_kind : Comparison → ℕ
comparison_kind Equal = 2
comparison_kind Different = 3
comparison_kind Assigned = 4

-- the token at the front of the tokens that are left, and the byte at which it starts; where none is left, the end of the text
unfoldable pub front : List Placed → Option Token
front [] = None
front (t ∷ ts) = Some t.token

unfoldable pub front_place : ℕ → List Placed → ℕ
front_place end [] = end
front_place end (t ∷ ts) = t.start
