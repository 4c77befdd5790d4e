-- The label of a tape as its items tell it, and a tape that gets another one.
use Rattle.std.proofs.Common.{◌≡◌, inl, inr, ℕ, ◌<◌, Bool, true, false, List, [], ◌∷◌, ◌++◌, IsTrue, refl, sym, ap, subst, ◌∙◌, arith}
use Rattle.std.specs.Prelude.{Result, Ok, Err, IfOk, Option, Some, None, IfSome, Contains, slice_get, nat_le, nat_lt, ◌&&◌, if◌then◌else◌}
use Rattle.std.specs.List.{list_any}
use Rattle.std.specs.Option.{unwrap_or}
use Rattle.std.proofs.lemmas.Bool.{and_parts, eq-eqb}
use Rattle.std.proofs.lemmas.List.Elements.{All-nil, All-cons}
use Rattle.bk_text.specs.Alphabets.{IsTapeName}
use Rattle.byte_formats.specs.Forms.{IsMaybe}
use Rattle.plant_core.specs.Records.{Record, block_with, mark, bad}
use Rattle.plant_core.specs.Effects.{commits, comes}
use Rattle.tape_config.specs.declared.port.PortFields.{PortFields}
use Rattle.tape_config.specs.Configs.{port_in}
use Rattle.tape_frames.specs.declared.label.LabelFields.{LabelFields}
use Rattle.tape_frames.specs.declared.dump_head.DumpHeadFields.{DumpHeadFields}
use Rattle.tape_frames.specs.declared.frame.Frame.{Frame}
use Rattle.tape_frames.specs.declared.frame.Frame.TheVariants.{Label, DumpHead, VolHead, Data, VolEnd, DumpEnd}
use Rattle.tape_frames.specs.Layouts.{FitsLabel}
use Rattle.tape_frames.specs.Frames.{Fits, spelling}
use Rattle.tape_text.specs.Items.{Item, Says, Filemark, Nothing}
use Rattle.tape_answers.specs.Reading.{frame_in, item_for, item_of, items_of}
use Rattle.budb_changes.specs.declared.records.TapePart.{TapePart}
use Rattle.budb_changes.specs.declared.records.DumpRecordFields.{DumpRecordFields}
use Rattle.budb_changes.specs.declared.change.Change.TheVariants.{Take}
use Rattle.budb_changes.specs.Bytes.{encoded}
use Rattle.budb_changes.specs.Forms.{IsChange, AreChanges}
use Rattle.budb_fold.specs.declared.database.HostPort.{HostPort}
use Rattle.budb_fold.specs.Database.{after, has_port, is_initial}
use Rattle.archive_model.specs.Holding.{is_label_frame, is_head_frame, is_so, holds_at, holds, place_of, HasInitial}
use Rattle.archive_model.proofs.HoldLaws.{held_initial, taken_holds_none}
use Rattle.archive_model.proofs.CutLaws.{any_from}
use Rattle.archive_model.proofs.AfterLaws.{taken_behind}
use Rattle.backup_session.specs.Worlds.{World, Setting}
use Rattle.backup_session.specs.Turns.{length_with}
use Rattle.backup_session.specs.Labels.{label_from, label_in, label_of}
use Rattle.backup_session.specs.Tapes.{slot_in, slot_at, slot_of, permanent_of, new_label, taken, labeled, label_turn}
use Rattle.backup_session.proofs.LabelLaws.{frame_label, nothing_label}
use Rattle.backup_session.proofs.Settling.{settled_commit, settled_label}
use Rattle.script_journals.proofs.Following.{own_bytes}
use Rattle.session_archives.proofs.Effects.{taken_at, labeled_at}
use Rattle.session_archives.proofs.Knowing.{IsNoHead}
use Rattle.session_archives.proofs.Kept.{Reads, TurnKeeps, Finds, said_keeps, picked}

-- ---- a label among items

-- the label that items begin with
abbrev label_said : List Item → Option LabelFields
label_said [] = None
label_said (Says f ∷ items) = label_from f
label_said (Filemark ∷ items) = None
label_said (Nothing ∷ items) = None

module _ (reads : Reads) where
  block_said : (bytes : List ℕ) (rest : List Item) (o : Option Frame) → frame_in bytes ≡ o → label_in bytes ≡ label_said (item_for o ∷ rest)
  block_said bytes rest None is = sym (nothing_label reads.tests bytes (reads.none bytes is))
  block_said bytes rest (Some f) is = (let read = reads.frame bytes f is in sym (frame_label reads.tests reads.one bytes f read.0 read.1))

  label_is_said : (tape : List Record) → label_of tape ≡ label_said (items_of tape)
  label_is_said [] = refl
  label_is_said (block_with bytes ∷ records) = block_said bytes (items_of records) (frame_in bytes) refl
  label_is_said (mark ∷ records) = refl
  label_is_said (bad ∷ records) = refl

  frame_fits : (f : Frame) → Fits f → IfSome (label_from f) FitsLabel
  frame_fits (Label a) fits = fits
  frame_fits (DumpHead a) fits = tt
  frame_fits (VolHead a) fits = tt
  frame_fits (Data a) fits = tt
  frame_fits (VolEnd a) fits = tt
  frame_fits (DumpEnd a) fits = tt

  block_fits : (bytes : List ℕ) (rest : List Item) (o : Option Frame) → frame_in bytes ≡ o → IfSome (label_said (item_for o ∷ rest)) FitsLabel
  block_fits bytes rest None is = tt
  block_fits bytes rest (Some f) is = frame_fits f (reads.frame bytes f is).0

  said_fits : (tape : List Record) → IfSome (label_said (items_of tape)) FitsLabel
  said_fits [] = tt
  said_fits (block_with bytes ∷ records) = block_fits bytes (items_of records) (frame_in bytes) refl
  said_fits (mark ∷ records) = tt
  said_fits (bad ∷ records) = tt

  -- the label of a tape has the form of one
  pub label_fits : (tape : List Record) → IfSome (label_of tape) FitsLabel
  label_fits tape = subst (λ (o : Option LabelFields). IfSome o FitsLabel) (sym (label_is_said tape)) (said_fits tape)

said_initial : (items : List Item) (a : LabelFields) → label_said items ≡ Some a → HasInitial a.initial items
said_initial [] a is = absurd (cc)
said_initial (Says (Label b) ∷ items) a is = (let same : b ≡ a = cc in ap (λ (l : LabelFields). l.initial) same)
said_initial (Says (DumpHead b) ∷ items) a is = absurd (cc)
said_initial (Says (VolHead b) ∷ items) a is = absurd (cc)
said_initial (Says (Data b) ∷ items) a is = absurd (cc)
said_initial (Says (VolEnd b) ∷ items) a is = absurd (cc)
said_initial (Says (DumpEnd b) ∷ items) a is = absurd (cc)
said_initial (Filemark ∷ items) a is = absurd (cc)
said_initial (Nothing ∷ items) a is = absurd (cc)

-- ---- without a label nothing is held

unlabeled : (initial tape : ℕ) (items : List Item) → label_said items ≡ None → is_so (is_label_frame initial tape) (slice_get items 0) ≡ true → ⊥
unlabeled initial tape [] none so = (let e : false ≡ true = so in cc)
unlabeled initial tape (Says (Label b) ∷ items) none so = (let e : Some b ≡ None = none in cc)
unlabeled initial tape (Says (DumpHead b) ∷ items) none so = (let e : false ≡ true = so in cc)
unlabeled initial tape (Says (VolHead b) ∷ items) none so = (let e : false ≡ true = so in cc)
unlabeled initial tape (Says (Data b) ∷ items) none so = (let e : false ≡ true = so in cc)
unlabeled initial tape (Says (VolEnd b) ∷ items) none so = (let e : false ≡ true = so in cc)
unlabeled initial tape (Says (DumpEnd b) ∷ items) none so = (let e : false ≡ true = so in cc)
unlabeled initial tape (Filemark ∷ items) none so = (let e : false ≡ true = so in cc)
unlabeled initial tape (Nothing ∷ items) none so = (let e : false ≡ true = so in cc)

none_held_at : (o : Option TapePart) (d : DumpRecordFields) (tape : ℕ) (items : List Item) → label_said items ≡ None → holds_at o d tape items ≡ true → ⊥
none_held_at None d tape items none held = (let e : false ≡ true = held in cc)
none_held_at (Some p) d tape items none held = unlabeled d.initial tape items none (and_parts (is_so (is_label_frame d.initial tape) (slice_get items 0)) (is_so (is_head_frame d.id tape) (slice_get items p.first)) held).0

none_held : (d : DumpRecordFields) (tape : ℕ) (items : List Item) → label_said items ≡ None → holds d tape items ≡ true → ⊥
none_held d tape items none held = none_held_at (place_of d tape) d tape items none held

-- ---- slots that a command names are here

here_or_empty : (b : Bool) (P : ℕ → Type 0) (k : ℕ) (text : List ℕ) → (b ≡ true → P k) → IfOk (if b then Ok k else Err text) P
here_or_empty true P k text is = is refl
here_or_empty false P k text is = tt

if_ok : (b : Bool) (P : ℕ → Type 0) (r : Result ℕ (List ℕ)) (text : List ℕ) → IfOk r P → IfOk (if b then r else Err text) P
if_ok true P r text is = is
if_ok false P r text is = tt

module _ (present : ℕ → Bool) where
  slot_in_here : (port : PortFields) (slot : ℕ) → IfOk (slot_in present port slot) (λ k. IsTrue (present k))
  slot_in_here port slot = if_ok (nat_le port.first slot && nat_le slot port.last) (λ (k : ℕ). IsTrue (present k)) _ _ (here_or_empty (present slot) (λ (k : ℕ). IsTrue (present k)) slot _ (λ is. is))

  slot_at_here : (offset : ℕ) (port : Option PortFields) (slot : Option ℕ) → IfOk (slot_at present offset port slot) (λ k. IsTrue (present k))
  slot_at_here offset None slot = tt
  slot_at_here offset (Some port) slot = slot_in_here port (unwrap_or slot port.first)

pub slot_is_here : (setting : Setting) (hosts : List HostPort) (offset : ℕ) (slot : Option ℕ) → IfOk (slot_of setting hosts offset slot) (λ k. IsTrue (setting.present k))
slot_is_here setting hosts offset slot = if_ok (has_port hosts offset) (λ (k : ℕ). IsTrue (setting.present k)) _ _ (slot_at_here setting.present offset (port_in offset setting.config.entries) slot)

-- ---- the new label

maybe_given : (text : Option (List ℕ)) (other : List ℕ) → IfSome text IsTapeName → IsMaybe IsTapeName other → IsMaybe IsTapeName (unwrap_or text other)
maybe_given None other form is = is
maybe_given (Some name) other form is = inl form

permanent_form : (old : Option LabelFields) → IfSome old FitsLabel → IsMaybe IsTapeName (permanent_of old)
permanent_form None fits = inr refl
permanent_form (Some a) fits = fits.permanent

pub new_fits : (old : Option LabelFields) (name pname : Option (List ℕ)) → IfSome old FitsLabel → IfSome name IsTapeName → IfSome pname IsTapeName → FitsLabel (new_label old name pname)
new_fits old name pname fits is_name is_pname = record {
  initial = omega arith;
  tape = omega arith;
  afs = maybe_given name [] is_name (inr refl);
  permanent = maybe_given pname (permanent_of old) is_pname (permanent_form old fits);
  carries = inl (refl, refl);
}

-- ---- what is put is no dump's head

no_head_read : (reads : Reads) (a : LabelFields) → FitsLabel a → (h : DumpHeadFields) (o : Option Frame) → frame_in (spelling (Label a)) ≡ o → item_for o ≡ Says (DumpHead h) → ⊥
no_head_read reads a fit h None is says = (let e : Nothing ≡ Says (DumpHead h) = says in cc)
no_head_read reads a fit h (Some f) is says =
    let read = reads.frame (spelling (Label a)) f is in
    let same : Label a ≡ f = reads.one (Label a) f fit read.0 read.1 in
    let head : f ≡ DumpHead h = cc in
    let both : Label a ≡ DumpHead h = same ∙ head in
    cc

pub label_no_head : (reads : Reads) (a : LabelFields) → FitsLabel a → IsNoHead (item_of (block_with (spelling (Label a))))
label_no_head reads a fit h is = no_head_read reads a fit h (frame_in (spelling (Label a))) refl is

pub mark_no_head : IsNoHead (item_of mark)
mark_no_head h is = (let e : Filemark ≡ Says (DumpHead h) = is in cc)

-- ---- the turn

module _ (reads : Reads) (w : World) (finds : Finds w) (slot : ℕ) (below : slot < w.setting.slots) (a : LabelFields) (fit : FitsLabel a) where
  -- nothing is taken: no listed dump is held there
  untaken : ((d : DumpRecordFields) (tape : ℕ) → Contains (after w.log).listed d → holds d tape (items_of (w.state.tape slot)) ≡ true → ⊥) → TurnKeeps w (labeled w slot a [])
  untaken none = record {
    keeps = labeled_at w.setting.slots w.setting.present w.contents reads.once w.state w.log slot a finds.holds below fit none;
    settled = settled_label slot a w.state finds.settled;
    contents = refl;
    adds = (label_no_head reads a fit, (mark_no_head, refl));
  }

  -- a dump set is taken, and then no listed dump is held there
  taken_first : (initial : ℕ) → AreChanges (Take initial ∷ []) → HasInitial initial (items_of (w.state.tape slot)) → TurnKeeps w (labeled w slot a (Take initial ∷ []))
  taken_first initial form has =
      let changes = Take initial ∷ [] in
      let s = comes (commits (encoded (Take initial ∷ []))) w.state in
      picked w (nat_lt 268435456 (length_with w (Take initial ∷ []))) _ _ (said_keeps w finds _) (record {
        keeps = (
          finds.holds,
          (
            changes,
            own_bytes changes form,
            labeled_at w.setting.slots w.setting.present w.contents reads.once s (w.log ++ changes) slot a (taken_at w.setting.slots w.setting.present w.contents w.state w.log initial finds.holds form) below fit
                (λ d tape there holds_it. taken_holds_none initial tape (after w.log).listed d (items_of (w.state.tape slot)) has (subst (λ (l : List DumpRecordFields). Contains l d) (taken_behind w.log [] initial tt) there) holds_it),
          ),
        );
        settled = settled_label slot a s (settled_commit (encoded changes) w.state finds.settled);
        contents = refl;
        adds = (changes, own_bytes changes form, (label_no_head reads a fit, (mark_no_head, refl)));
      })

  none_of_initial : (initial : ℕ) → HasInitial initial (items_of (w.state.tape slot)) → list_any (is_initial initial) (after w.log).listed ≡ false → (d : DumpRecordFields) (tape : ℕ) → Contains (after w.log).listed d → holds d tape (items_of (w.state.tape slot)) ≡ true → ⊥
  none_of_initial initial has none d tape there holds_it =
      let any : list_any (is_initial initial) (after w.log).listed ≡ true = any_from (is_initial initial) (after w.log).listed d there (eq-eqb d.initial initial (held_initial initial tape d (items_of (w.state.tape slot)) has holds_it)) in
      (let both : false ≡ true = sym none ∙ any in cc)

  pub labels_keep : (label : Option LabelFields) → label_said (items_of (w.state.tape slot)) ≡ label → IfSome label FitsLabel → TurnKeeps w (labeled w slot a (taken (after w.log).listed label))
  labels_keep None is fits = untaken (λ d tape there holds_it. none_held d tape (items_of (w.state.tape slot)) is holds_it)
  labels_keep (Some old) is fits = go (list_any (is_initial old.initial) (after w.log).listed) refl
    where
      has : HasInitial old.initial (items_of (w.state.tape slot))
      has = said_initial (items_of (w.state.tape slot)) old is

      go : (b : Bool) → list_any (is_initial old.initial) (after w.log).listed ≡ b → TurnKeeps w (labeled w slot a (if b then Take old.initial ∷ [] else []))
      go true any = taken_first old.initial (All-cons IsChange (Take old.initial) [] fits.initial (All-nil IsChange)) has
      go false none = untaken (none_of_initial old.initial has none)

pub label_keeps : (reads : Reads) (w : World) → Finds w → (name pname : Option (List ℕ)) → IfSome name IsTapeName → IfSome pname IsTapeName → (r : Result ℕ (List ℕ)) → IfOk r (λ k. IsTrue (w.setting.present k)) → TurnKeeps w (label_turn w name pname r)
label_keeps reads w finds name pname is_name is_pname (Err text) here = said_keeps w finds text
label_keeps reads w finds name pname is_name is_pname (Ok slot) here =
    let tape = w.state.tape slot in
    labels_keep reads w finds slot (finds.within slot here) (new_label (label_of tape) name pname) (new_fits (label_of tape) name pname (label_fits reads tape) is_name is_pname) (label_of tape) (sym (label_is_said reads tape)) (label_fits reads tape)
