-- What a scan of one tape tells: of each part whose head stands in the front what the front has of it.
use Rattle.std.specs.Prelude.{◌≡◌, ℕ, ◌+◌, Bool, false, nat_lt, ◌==◌, if◌then◌else◌, Option, Some, None, List, length, map, filter}
use Rattle.tape_frames.specs.declared.label.LabelFields.{LabelFields}
use Rattle.tape_text.specs.Items.{Item}
use Rattle.tape_text.specs.Parts.{FoundFragment, FoundPart, fragments_of}
use Rattle.tape_scan.specs.declared.sections.FragFound.{FragFound}
use Rattle.tape_scan.specs.declared.sections.PartFound.{PartFound}
use Rattle.tape_scan.specs.declared.sections.Sections.{Sections}
use Rattle.tape_scan.specs.Scans.{Scan, is_closed, begun}

-- the record number of a fragment's end, behind its head and its pieces
abbrev pub end_at : FoundFragment → ℕ
end_at f = f.at + length f.fragment.pieces + 1

-- A fragment in a front of so many records: whether its volume ends with it is told where its end stands in the front.
abbrev pub told_fragment : ℕ → FoundFragment → FragFound
told_fragment count f = record {
  head = f.fragment.head;
  at = f.at;
  last = if nat_lt (end_at f) count then Some (f.fragment.end.last == 1) else None;
}

-- a fragment whose head stands in so many records
abbrev pub is_headed : ℕ → FoundFragment → Bool
is_headed count f = nat_lt f.at count

-- A part in a front of so many records, with its fragments whose heads stand there. Where it is closed, its end, the marks before
-- that, and whether its dump goes on on another tape are told.
abbrev pub told_part : ℕ → FoundPart → PartFound
told_part count p = record {
  head = p.part.head;
  first = p.first;
  end = if is_closed count p then Some p.end else None;
  marks = if is_closed count p then p.marks else 0;
  more = if is_closed count p then p.part.end.more == 1 else false;
  frags = map (told_fragment count) (filter (is_headed count) (fragments_of p));
}

-- the label, where it stands in the front
abbrev pub told_label : {items : List Item} → Scan items → Option LabelFields
told_label s = if nat_lt 0 s.count then Some s.front.text.whole.label else None

-- What a scan of the tape in this slot tells. It stops at a record exactly where the front ends before the tape does.
abbrev pub told_by : {items : List Item} → ℕ → Scan items → Sections
told_by {items = items} slot s = record {
  slot = slot;
  label = told_label s;
  parts = map (told_part s.count) (begun s);
  stop = if nat_lt s.count (length items) then Some s.count else None;
}

-- these sections are what a scan of the tape in this slot tells
abbrev pub IsScanOf : ℕ → List Item → Sections → Type 0
IsScanOf slot items sections = (s : Scan items) × (sections ≡ told_by slot s)
