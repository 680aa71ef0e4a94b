-- `Told::tell` meets its contract, with a buffer that is too short: the refusal by hand, so that another cause or place does not fit.
use native.Mathlib.Omega.{arith}
use Rattle.std.proofs.lemmas.Bool.{not_from_false}
use Rattle.lists.proofs.Deciding.{denied}
use Rattle.machine.proofs.Answers.{tells_short}
use Rattle.whole_sheet.proofs.told.Told.tell.Goals as goal

pub returns-then-not-fits : goal.returns-then-not-fits
returns-then-not-fits g c = tells_short (g.Self.Written.text_of c.args.self.now) c.args.buffer.now (omega (arith, denied c.fits.ensures (not_from_false _ c.if-not-fits.true)))
