-- What the records of a tape say, as a function of them.
use Rattle.std.specs.Prelude.{ℕ, List, [], map, take, drop, slice_index, ◌&&◌, ◌==◌, if◌then◌else◌, Option, Some, None}
use Rattle.std.specs.Int.{w16, w32, from_be_bytes}
use Rattle.bk_text.specs.Blanks.{is_same_text}
use Rattle.plant_core.specs.Records.{Record, block_with, mark, bad}
use Rattle.tape_frames.specs.declared.label.LabelFields.{LabelFields}
use Rattle.tape_frames.specs.declared.dump_head.DumpHeadFields.{DumpHeadFields}
use Rattle.tape_frames.specs.declared.vol_head.VolHeadFields.{VolHeadFields}
use Rattle.tape_frames.specs.declared.data.DataFields.{DataFields}
use Rattle.tape_frames.specs.declared.vol_end.VolEndFields.{VolEndFields}
use Rattle.tape_frames.specs.declared.dump_end.DumpEndFields.{DumpEndFields}
use Rattle.tape_frames.specs.declared.frame.Frame.{Frame}
use Rattle.tape_frames.specs.declared.frame.Frame.TheVariants.{Label, DumpHead, VolHead, Data, VolEnd, DumpEnd}
use Rattle.tape_frames.specs.Frames.{spelling}
use Rattle.tape_text.specs.Items.{Item, Says, Filemark, Nothing}
use Rattle.tape_answers.specs.FieldTests.{frame_test}

-- ---- fields one behind another

-- a number of four bytes stands in front, and then what is made of the bytes behind it
unfoldable pub number_then : {X : Type 0} → (ℕ → List ℕ → X) → List ℕ → X
number_then go bytes = go (from_be_bytes w32 (take 4 bytes)) (drop 4 bytes)

-- a text behind its length in one byte
unfoldable pub text_then : {X : Type 0} → (List ℕ → List ℕ → X) → List ℕ → X
text_then go bytes = go (take (slice_index bytes 0) (drop 1 bytes)) (drop (slice_index bytes 0) (drop 1 bytes))

-- a text behind its length in two bytes
unfoldable pub long_text_then : {X : Type 0} → (List ℕ → List ℕ → X) → List ℕ → X
long_text_then go bytes = go (take (from_be_bytes w16 (take 2 bytes)) (drop 2 bytes)) (drop (from_be_bytes w16 (take 2 bytes)) (drop 2 bytes))

-- ---- the fields of each kind, as they stand in front of bytes

-- a label's fields: initial dump, tape number, AFS name and permanent name; what stands behind them is not read
abbrev pub label_at : List ℕ → LabelFields
label_at = number_then (λ initial. number_then (λ tape. text_then (λ afs. text_then (λ permanent rest.
    record { initial = initial; tape = tape; afs = afs; permanent = permanent }))))

-- the fields that a dump's head has in both versions
abbrev pub head_then : {X : Type 0} → (DumpHeadFields → List ℕ → X) → List ℕ → X
head_then go = number_then (λ id. number_then (λ initial. number_then (λ parent. number_then (λ expires. number_then (λ tape. number_then (λ part. number_then (λ volumes.
    text_then (λ set. long_text_then (λ level. text_then (λ base rest. go (record {
      id = id;
      initial = initial;
      parent = parent;
      expires = expires;
      tape = tape;
      part = part;
      volumes = volumes;
      set = set;
      level = level;
      base = base;
      cell = [];
      permanent = [];
      uses = 0;
    }) rest))))))))))

-- version 1
abbrev pub plain_head_at : List ℕ → DumpHeadFields
plain_head_at = head_then (λ head rest. head)

-- version 2
abbrev pub dump_head_at : List ℕ → DumpHeadFields
dump_head_at = head_then (λ head. text_then (λ cell. text_then (λ permanent. number_then (λ uses rest.
    record head { cell = cell; permanent = permanent; uses = uses }))))

-- the fields of a volume fragment's head: six numbers, then the volume's name, its server and its partition
abbrev pub vol_head_at : List ℕ → VolHeadFields
vol_head_at = number_then (λ dump. number_then (λ index. number_then (λ fragment. number_then (λ volume. number_then (λ clone. number_then (λ from.
    text_then (λ name. text_then (λ server. text_then (λ partition rest. record {
      dump = dump;
      index = index;
      fragment = fragment;
      volume = volume;
      clone = clone;
      from = from;
      name = name;
      server = server;
      partition = partition;
    })))))))))

-- the fields of a piece: dump, volume's place, bytes used, and behind 12 bytes more the 16,352 bytes with their zeros
abbrev pub data_at : List ℕ → DataFields
data_at = number_then (λ dump. number_then (λ index. number_then (λ used rest.
    record { dump = dump; index = index; used = used; bytes = take 16352 (drop 12 rest) })))

-- the fields of a fragment's end: dump, volume's place, fragment, 1 where it ends the volume, and its bytes
abbrev pub vol_end_at : List ℕ → VolEndFields
vol_end_at = number_then (λ dump. number_then (λ index. number_then (λ fragment. number_then (λ last. number_then (λ bytes rest.
    record { dump = dump; index = index; fragment = fragment; last = last; bytes = bytes })))))

-- the fields of a part's end: dump, tape number, and 1 where the dump goes on on another tape
abbrev pub dump_end_at : List ℕ → DumpEndFields
dump_end_at = number_then (λ dump. number_then (λ tape. number_then (λ more rest. record { dump = dump; tape = tape; more = more })))

-- ---- blocks

-- what the bytes behind a head of this version and this kind would be
abbrev pub fields_at : ℕ → ℕ → List ℕ → Frame
fields_at version code body =
    if code == 1 then Label (label_at body)
    else (if code == 2 then DumpHead (if version == 1 then plain_head_at body else dump_head_at body)
    else (if code == 3 then VolHead (vol_head_at body)
    else (if code == 4 then Data (data_at body)
    else (if code == 5 then VolEnd (vol_end_at body)
    else DumpEnd (dump_end_at body)))))

-- the one frame whose block these bytes can be: version and kind are bytes 4 and 5, and the fields begin at byte 8
abbrev pub likely_frame : List ℕ → Frame
likely_frame bytes = fields_at (slice_index bytes 4) (slice_index bytes 5) (drop 8 bytes)

-- this frame, where its fields fit and its block is just these bytes; else None
abbrev pub frame_if : Frame → List ℕ → Option Frame
frame_if f bytes = if frame_test f && is_same_text bytes (spelling f) then Some f else None

-- the frame whose block these bytes are; none where they are no frame's
unfoldable pub frame_in : List ℕ → Option Frame
frame_in bytes = frame_if (likely_frame bytes) bytes

-- ---- tapes

-- what a block says: its frame, or nothing where it is no frame's
abbrev pub item_for : Option Frame → Item
item_for None = Nothing
item_for (Some f) = Says f

-- what a record says
abbrev pub item_of : Record → Item
item_of (block_with bytes) = item_for (frame_in bytes)
item_of mark = Filemark
item_of bad = Nothing

-- what the records of a tape say
abbrev pub items_of : List Record → List Item
items_of tape = map item_of tape
