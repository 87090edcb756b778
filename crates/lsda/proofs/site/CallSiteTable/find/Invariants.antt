use Rattle.std.proofs.Common.{◌≡◌, ◌-◌, None, Ok}
use Rattle.lsda.specs.Site.{look, find_site}
use Rattle.lsda.specs.Turns.{iterate}
use Rattle.lsda.proofs.site.CallSiteTable.find.Given as goal

-- the search that is left gives the answer of the whole
abbrev pub invariant-loop : goal.invariant-loop
invariant-loop l =
    iterate (look l.self.bytes.now l.self.header l.self.function) (λ _. Ok None) (l.end - l.counter) l.search
    ≡ find_site l.self.bytes.now l.self.header l.self.function l.fn.wanted
