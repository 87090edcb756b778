use Rattle.std.specs.Iterator.Adapters.{enumerate_source, enumerate_count}
use Rattle.std.specs.Str.Iter.{lines_rest}
use Rattle.scenario.specs.Scripts.{Fresh, Reached}
use Rattle.scenario.proofs.script.Scenario.read.Given as goal

abbrev pub invariant-loop-index : goal.invariant-loop-index
invariant-loop-index l = Fresh l.initial.all × Reached l.text l.initial.all (enumerate_count l.index-iterator) l.all (lines_rest (enumerate_source l.index-iterator))
