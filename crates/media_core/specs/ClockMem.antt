-- What a clock in memory shows.
use Rattle.std.specs.Prelude.{ℕ, List, drop}
use Rattle.media_core.specs.declared.clock.ClockMem.{ClockMem}

-- the moments that are to come
abbrev pub moments_left : ClockMem → List ℕ
moments_left c = drop c.at c.moments.items
