-- `open_next` meets its contract.
use Rattle.candidates.proofs.Trying.{pieced_among, opens_tried}
use Rattle.candidates.proofs.Trial.open_next.Goals as goal

pub returns : goal.returns
returns c n pieced low =
    let is_tried = c.unstuck-tried.ensures in
    opens_tried c.requires pieced c.unstuck-tried.result is_tried
    (c.found_among-found.ensures (pieced_among c.args.self.now.pieces c.unstuck-tried.result pieced (λ i h. low i ((is_tried i).0 h).0)))
    c.difference-due.result c.difference-due.ensures c.union.result c.union.ensures
