-- `search::searches::accepted` meets its contract.
use Rattle.search.proofs.Accepting.{accepted_iff}
use Rattle.search.proofs.searches.accepted.Goals as goal

pub returns : goal.returns
returns c g force reached rows claims n is fit is_initials is_finals =
    let a = c.args in
    accepted_iff fit is.masked is.forced a.initials a.finals is_initials is_finals a.seen c.union.result reached c.union.ensures c.meets.ensures
