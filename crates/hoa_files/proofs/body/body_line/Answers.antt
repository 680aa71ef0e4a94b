-- `body_line` meets its contract: an edge behind a state, or what comes where none stands.
use native.Mathlib.Omega.{arith}
use Rattle.hoa_files.proofs.LineTexts.{no_edge, beyond_edge, line_of}
use Rattle.hoa_files.proofs.body.body_line.Goals as goal

pub returns-then-count-eq0 : goal.returns-then-count-eq0
returns-then-count-eq0 c =
    let a = c.args in
    line_of a.rest.now a.states a.count (λ h. absurd (omega arith)) c.state_or_end.result c.state_or_end.ensures

pub returns-in_default : goal.returns-in_default
returns-in_default c =
    let a = c.args in
    line_of a.rest.now a.states a.count (λ h. no_edge a.rest.now c.edge_at.ensures c.in_default.is) c.state_or_end-in_default.result c.state_or_end-in_default.ensures

pub returns-then-states-edge : goal.returns-then-states-edge
returns-then-states-edge c =
    beyond_edge c.args.rest.now c.edge_at.ensures _ c.in-Some.is c.args.states c.args.count (omega arith) (omega arith) (omega arith)
