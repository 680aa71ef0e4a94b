-- `contents` meets its contract: the keys are what a mark keeps.
use Rattle.session.proofs.Marked.{contents_of}
use Rattle.session.proofs.Session.contents.Goals as goal

pub returns : goal.returns
returns c = contents_of c.args.self.now c.keys.result c.keys.ensures.keyed c.new.result c.new.ensures
