use Rattle.std.proofs.Common.{inl, inr}
use Rattle.dump_stream.proofs.SoundLaws.{named_header}
use Rattle.dump_stream.proofs.reading.after_volume.Goals as goal

pub begin-requires-clause-named : goal.begin-requires-clause-named
begin-requires-clause-named c =
    rw c.as_slice.ensures (named_header c.args.dump c.args.fields c.args.tag (inl c.if-tag-eq3.true) c.requires.sound c.requires.comes)

pub begin-requires-then-tag-eq4-clause-named : goal.begin-requires-then-tag-eq4-clause-named
begin-requires-then-tag-eq4-clause-named c =
    rw c.as_slice-then-tag-eq4.ensures (named_header c.args.dump c.args.fields c.args.tag (inr c.if-tag-eq4.true) c.requires.sound c.requires.comes)
