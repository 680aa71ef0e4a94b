-- `round` meets its contract.
use Prim.Native.Nat.{◌+◌}
use mathlib.Core.Path.{sym, subst}
use Rattle.machine.specs.declared.Phase.{Phase}
use Rattle.machine.specs.Machine.{next_round}
use Rattle.search.specs.declared.Claims.{Claims}
use Rattle.rounds.specs.Promises.{Mirrors}
use Rattle.rounds.proofs.Settled.{round_paired, round_kept}
use Rattle.rounds.proofs.round.Goals as goal

pub returns : goal.returns
returns c m w g kept =
    let a = c.args in
    let b = a.before in
    let force : Claims = record { loops = c.open_mask-loops.result; mixes = c.open_mask-mixes.result } in
    subst (λ (p : Phase). Mirrors (next_round m) c.note.new.rounds c.note-2.new.rounds p (b.rounds + 1)) (sym c.judge-phase.ensures)
    (round_kept m w g force c.opened-new.result c.with_new.result kept c.open_mask-loops.ensures c.open_mask-mixes.ensures (record {
      opens = c.opened-new.ensures (round_paired m w g force kept c.open_mask-loops.ensures c.open_mask-mixes.ensures);
      with_new = c.with_new.ensures;
      tested = c.accepts-accepted.ensures;
      vain_iff = c.nothing.ensures;
      loop_noted = c.note.ensures;
      mix_noted = c.note-2.ensures;
    }))
