use Rattle.std.proofs.Common.{◌≡◌}
use Rattle.stored.specs.Numbers.{behind}
use Rattle.stored.proofs.Numbers.skip.Given as goal

abbrev pub invariant-loop : goal.invariant-loop
invariant-loop l = l.self.rest.now ≡ behind l.counter l.initial.self.rest.now
