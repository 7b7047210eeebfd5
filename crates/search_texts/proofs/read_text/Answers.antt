-- `read_text` meets its contract.
use native.Mathlib.Omega.{arith}
use Rattle.packet.proofs.Stages.{handed_on}
use Rattle.search_texts.proofs.Reading.{zeros_length, refuses, reads}
use Rattle.search_texts.proofs.read_text.Goals as goal

pub returns-in_err-count : goal.returns-in_err-count
returns-in_err-count c = refuses _ _ _ _ _ c.read_with.ensures zeros_length zeros_length zeros_length c.in_err-count.was c.side_names-words.ensures.0 _ (handed_on _ c.from_residual.ensures.1)

pub returns : goal.returns
returns c = reads _ _ _ _ _ c.read_with.ensures zeros_length zeros_length zeros_length c.in_ok-count.was (omega arith) (omega arith) (omega arith) c.side_names-words.ensures.0
