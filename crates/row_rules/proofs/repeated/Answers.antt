-- `row_rules::repeated` meets its contract. Assumes nothing.
use Rattle.packet.proofs.Tests.{clash}
use mathlib.Core.Path.{refl}
use Rattle.row_rules.proofs.Looking.{looked_up, repeats}
use Rattle.row_rules.proofs.repeated.Goals as goal

pub place-requires : goal.place-requires
place-requires c = record { indexed = c.requires.indexed; packet_lt_count = looked_up c.requires.indexed c.requires.i_in_bounds.1 c.requires.i_in_bounds.0 _ c.row.ensures }

pub returns-in-Ok : goal.returns-in-Ok
returns-in-Ok c = repeats _ c.row.ensures c.place.ensures _ c.in-Ok.is

pub returns-in-Err : goal.returns-in-Err
returns-in-Err c = λ e. clash e refl
