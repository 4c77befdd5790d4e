-- The numbers of files.
use Rattle.std.specs.Prelude.{ℤ, pos, ◌<ℤ◌, Option, IfSome}

-- A file's number, where it is known, is none of standard input, output and errors.
abbrev pub IsAboveStreams : Option ℤ → Type 0
IsAboveStreams known = IfSome known (λ number. pos 2 <ℤ number)
