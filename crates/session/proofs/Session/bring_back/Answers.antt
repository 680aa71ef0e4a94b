-- `bring_back` meets its contract: what is kept is there again, and is worked on as far as it was.
use mathlib.Core.Path.{refl}
use native.Mathlib.Omega.{arith}
use Rattle.session.proofs.Gate.{known}
use Rattle.session.proofs.Marked.{never_full, never_many, never_foreign, never_running, never_settled, brought_back}
use Rattle.session.proofs.Session.bring_back.Goals as goal

pub returns-then-kept-gt-MOST_ROWS : goal.returns-then-kept-gt-MOST_ROWS
returns-then-kept-gt-MOST_ROWS c = let a = c.args in never_full a.self a.kept.now (omega arith) c.refuse.result

pub returns-then-kept-gt-MOST_ROUNDS : goal.returns-then-kept-gt-MOST_ROUNDS
returns-then-kept-gt-MOST_ROUNDS c = let a = c.args in never_many a.self a.kept.now (omega arith) c.refuse-then-kept-gt-MOST_ROUNDS.result

pub rework-requires : goal.rework-requires
rework-requires c = (known c.reload-session.result c.in-Ok-Open.ensures c.in-Ok-Open.field-0-is, omega arith)

pub returns-in-Err : goal.returns-in-Err
returns-in-Err c = let a = c.args in
    never_foreign a.self a.kept.now c.reload-session.result c.reload-session.ensures c.in-Err.ensures c.refuse-in-Err.result

pub returns-in-Ok-Open : goal.returns-in-Ok-Open
returns-in-Ok-Open c = let a = c.args in
    brought_back a.self a.kept.now c.reload-session.result c.reload-session.ensures refl refl c.rework.ensures

pub returns-in-Ok-Running : goal.returns-in-Ok-Running
returns-in-Ok-Running c = let a = c.args in
    never_running a.self a.kept.now c.reload-session.result c.reload-session.ensures (known c.reload-session.result c.in-Ok-Running.ensures c.in-Ok-Running.field-0-is) c.refuse-in-Ok-Running.result

pub returns-in-Ok-Settled : goal.returns-in-Ok-Settled
returns-in-Ok-Settled c = let a = c.args in
    never_settled a.self a.kept.now c.reload-session.result c.reload-session.ensures (known c.reload-session.result c.in-Ok-Settled.ensures c.in-Ok-Settled.field-0-is) c.refuse-in-Ok-Settled.result
