-- `Reader::leaf` meets its contract.
use Rattle.std.proofs.lemmas.Result.{err_from_is_err_and}
use Rattle.text.proofs.StepLaws.{leaf_keyword, leaf_none, name_ends, name_stops, operator_ends, operator_stops, leaf_action}
use Rattle.text.proofs.Reader.leaf.Goals as goal

pub returns-in_err-operator-in-Field : goal.returns-in_err-operator-in-Field
returns-in_err-operator-in-Field c = λ at f. let p = err_from_is_err_and c.from_residual.result c.from_residual.ensures.1 in rw (p.1, p.2) (name_ends _ _ f c.in-Field.is c.in_err-operator-in-Field.ensures)

pub returns-in_default-token : goal.returns-in_default-token
returns-in_default-token c = λ at f. name_stops _ _ f c.in-Field.is c.in_ok-operator-in-Field.ensures c.in_default-token.not-Operator

pub returns-in_err-value-in-Field : goal.returns-in_err-value-in-Field
returns-in_err-value-in-Field c = λ at f. let p = err_from_is_err_and c.from_residual-in_err-value-in-Field.result c.from_residual-in_err-value-in-Field.ensures.1 in rw (p.1, p.2) (operator_ends _ _ f c.in-Field.is c.in_ok-operator-in-Field.ensures c.in-Operator.is c.in_err-value-in-Field.ensures)

pub returns-in_default-token-2 : goal.returns-in_default-token-2
returns-in_default-token-2 c = λ at f. operator_stops _ _ f c.in-Field.is c.in_ok-operator-in-Field.ensures c.in-Operator.is c.in_ok-value-in-Field.ensures c.in_default-token-2.not-Number

pub returns-in-Keyword : goal.returns-in-Keyword
returns-in-Keyword c = λ at f. leaf_keyword _ _ f c.in-Keyword.is c.constant_kind.ensures

pub returns-in-Number : goal.returns-in-Number
returns-in-Number c = λ at f. leaf_action _ _ f c.in-Field.is c.in_ok-operator-in-Field.ensures c.in-Operator.is c.in_ok-value-in-Field.ensures c.in-Number.is c.comparison_kind.ensures

pub returns-in_default : goal.returns-in_default
returns-in_default c = λ at f. leaf_none _ _ f c.in_default.not-Keyword c.in_default.not-Field c.requires.1 c.requires.2
