use Rattle.wv_code.specs.Breaks.{start, end, handler, catch}
use Rattle.wv_code.proofs.range.range_of.Goals as goal

pub start_of-requires-clause-starts : goal.start_of-requires-clause-starts
start_of-requires-clause-starts c = rw c.from.ensures (λ none. c.requires.sound 0 (start (λ both. none both.0)))

pub end-requires-clause-ends : goal.end-requires-clause-ends
end-requires-clause-ends c = λ none. c.requires.sound 2 (end none)

pub start_of-requires-2-clause-starts : goal.start_of-requires-2-clause-starts
start_of-requires-2-clause-starts c = rw c.from-2.ensures (λ none. c.requires.sound 4 (handler none))

pub catch-requires : goal.catch-requires
catch-requires c = λ none. c.requires.sound 6 (catch none)
