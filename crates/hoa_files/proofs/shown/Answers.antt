-- `shown` meets its contract: its array has room.
use mathlib.Core.Path.{◌∙◌, sym, subst}
use Rattle.lists.proofs.Writing.{wrote_fits, wrote_back}
use Rattle.hoa_files.specs.Promise.{HoaWrites}
use Rattle.hoa_files.proofs.Outputs.{writes_once}
use Rattle.hoa_files.proofs.shown.Goals as goal

pub returns : goal.returns
returns c =
    let s = c.show-length in
    let input = c.args.input.now in
    let w = s.ensures in
    let t = wrote_back w.2 in
    record { within = wrote_fits w.2; is = subst (HoaWrites input) (sym t) w.1; only = λ u h. writes_once input u w.0 h w.1 ∙ sym t }
