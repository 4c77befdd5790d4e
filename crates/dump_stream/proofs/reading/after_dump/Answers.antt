use Rattle.std.proofs.Common.{ℕ, subst}
use Rattle.std.specs.Prelude.{IsSome}
use Rattle.dump_stream.specs.declared.sofar.Sofar.TheVariants.{Dump}
use Rattle.dump_stream.specs.Machine.{form_at}
use Rattle.dump_stream.proofs.SoundLaws.{named_dump}
use Rattle.dump_stream.proofs.reading.after_dump.Goals as goal

pub dump_from-requires : goal.dump_from-requires
dump_from-requires c =
    let fs = c.args.fields in
    rw c.as_slice.ensures (named_dump fs c.requires.sound (subst (λ (t : ℕ). IsSome (form_at (Dump fs) t)) c.if-tag-eq2.true c.requires.comes))
