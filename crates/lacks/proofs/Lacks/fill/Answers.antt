-- `lacks::Lacks::fill` meets its contract: backward as forward, in the graph turned round.
use Rattle.lacks.proofs.Lacking.{lacking_same}
use Rattle.lacks.proofs.Lacks.fill.Goals as goal

pub returns-clause-backward : goal.returns-clause-backward
returns-clause-backward c back turned = record {
  lacks = λ none places i q h k. lacking_same c.turned-turned.ensures turned (c.write_by_letters-2.ensures.lacks none places i q h k);
}
