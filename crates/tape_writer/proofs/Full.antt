-- A tape is full where a writer says so; and a dump on one tape.
use Rattle.std.proofs.Common.{◌≡◌, ◌↔◌, inl, inr, ℕ, ◌+◌, ◌<◌, Some, List, [], ◌∷◌, length, refl, sym, ap, subst, arith, append-nil}
use Rattle.std.specs.Prelude.{slice_get}
use Rattle.tape_config.specs.declared.port.PortFields.{PortFields}
use Rattle.tape_text.specs.Texts.{Fragment, Part}
use Rattle.tape_writer.specs.Room.{Counts, taken_by, more, HasRoom, LacksRoom}
use Rattle.tape_writer.specs.Filling.{Start, Dumping, part_blocks, counted_with, taken_with, Stays, HasNoRoomBehind, IsDumped, IsPut, TapeText}
use Rattle.tape_text.specs.Parts.{part_marks}

pub stays_within : (port : PortFields) (s : Start) (p : Part) → HasRoom 0 0 (counted_with port s p) ↔ Stays port s p
stays_within port s p = (λ room. room, λ stays. stays)

-- the same room, counted from the end of the part
same_room : (port : PortFields) (s : Start) (p : Part) (c : Counts) (blocks marks over less : ℕ) → more over less c ≡ counted_with port s p → LacksRoom (over + blocks) (less + marks) c ↔ (port.capacity < taken_with port s p blocks marks)
same_room port s p c blocks marks over less same =
    let ports : c.port ≡ port = ap (λ (k : Counts). k.port) same in
    let bs : c.blocks + over ≡ s.blocks + part_blocks p = ap (λ (k : Counts). k.blocks) same in
    let ms : c.marks + less ≡ s.marks + part_marks p = ap (λ (k : Counts). k.marks) same in
    let here : c.blocks + (over + blocks) ≡ s.blocks + part_blocks p + blocks = omega (arith, bs) in
    let there : c.marks + (less + marks) ≡ s.marks + part_marks p + marks = omega (arith, ms) in
    let taken : taken_by c.port (c.blocks + (over + blocks)) (c.marks + (less + marks)) ≡ taken_with port s p blocks marks = λ i. taken_by (ports i) (here i) (there i) in
    let whole : c.port.capacity ≡ port.capacity = ap (λ (q : PortFields). q.capacity) ports in
    (λ lacks. omega (arith, lacks, taken, whole), λ full. omega (arith, full, taken, whole))

pub full_behind_piece : (port : PortFields) (s : Start) (p : Part) (f : Fragment) (c : Counts) → more 2 2 c ≡ counted_with port s p → f.end.last ≡ 0 → (LacksRoom 3 2 c ↔ HasNoRoomBehind port s p f)
full_behind_piece port s p f c same last =
    let room = same_room port s p c 1 0 2 2 same in (
      λ lacks. inl (last, room.0 lacks),
      λ none. elim none [
        | inl piece ↦ room.1 piece.1
        | inr volume ↦ absurd (omega (arith, volume.0, last))
      ],
    )

pub full_behind_volume : (port : PortFields) (s : Start) (p : Part) (f : Fragment) (c : Counts) → more 1 1 c ≡ counted_with port s p → f.end.last ≡ 1 → (LacksRoom 4 2 c ↔ HasNoRoomBehind port s p f)
full_behind_volume port s p f c same last =
    let room = same_room port s p c 3 1 1 1 same in (
      λ lacks. inr (last, room.0 lacks),
      λ none. elim none [
        | inl piece ↦ absurd (omega (arith, piece.0, last))
        | inr volume ↦ room.1 volume.1
      ],
    )

pub on_one_tape : (port : PortFields) (cell : List ℕ) (volumes : List Dumping) (s : Start) (p : Part) → IsPut port cell s p → p.head.part ≡ 1 → p.end.more ≡ 0 → p.head.volumes ≡ length volumes
    → ((index : ℕ) (v : Dumping) → slice_get volumes index ≡ Some v → IsDumped p.head.id index p.fragments v) → TapeText port cell p.head volumes (s ∷ []) (p ∷ [])
on_one_tape port cell volumes s p put part more count dumped = record {
  whole = record { begins = part; linked = tt; ends = more };
  begins = refl;
  on = (put, tt);
  full = tt;
  count = count;
  dumped = λ index v at. subst (λ (fs : List Fragment). IsDumped p.head.id index fs v) (sym (append-nil p.fragments)) (dumped index v at);
}
