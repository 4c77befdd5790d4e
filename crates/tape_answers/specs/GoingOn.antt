-- Tests of whether a told part of a dump goes on in another one.
use Rattle.std.specs.Prelude.{◌+◌, Bool, true, false, not, ◌&&◌, ◌==◌, Option, Some, None, List, slice_get, is_some}
use Rattle.bk_text.specs.Blanks.{is_same_text}
use Rattle.tape_frames.specs.declared.dump_head.DumpHeadFields.{DumpHeadFields}
use Rattle.tape_frames.specs.declared.vol_head.VolHeadFields.{VolHeadFields}
use Rattle.tape_scan.specs.declared.sections.FragFound.{FragFound}
use Rattle.tape_scan.specs.declared.sections.PartFound.{PartFound}
use Rattle.tape_scan.specs.Steps.{last_of}
use Rattle.tape_scan.specs.Continuing.{is_next_volume}

-- the heads of two parts of one dump agree
unfoldable pub heads_agree : DumpHeadFields → DumpHeadFields → Bool
heads_agree a b =
    (b.id == a.id) && ((b.initial == a.initial) && ((b.parent == a.parent) && ((b.expires == a.expires) && ((b.volumes == a.volumes)
    && (is_same_text b.set a.set && (is_same_text b.level a.level && (is_same_text b.base a.base && is_same_text b.cell a.cell)))))))

-- the second is the head of the first one's volume's next fragment
unfoldable pub is_next_fragment : VolHeadFields → VolHeadFields → Bool
is_next_fragment a b =
    (b.dump == a.dump) && ((b.index == a.index) && ((b.fragment == a.fragment + 1) && ((b.volume == a.volume) && ((b.clone == a.clone) && ((b.from == a.from)
    && (is_same_text b.name a.name && (is_same_text b.server a.server && is_same_text b.partition a.partition)))))))

-- over two tapes a told fragment goes on
abbrev pub goes_on_by : Option Bool → VolHeadFields → VolHeadFields → Bool
goes_on_by None a b = false
goes_on_by (Some false) a b = is_next_fragment a b
goes_on_by (Some true) a b = is_next_volume a b

-- over two tapes a told fragment goes on in another, by its `last` and both heads; not where its end isn't told
abbrev pub fragment_goes_on : FragFound → FragFound → Bool
fragment_goes_on f g = goes_on_by f.last f.head g.head

-- the last fragment of a part goes on in the first one of the next part; both are there
abbrev pub ends_in : Option FragFound → Option FragFound → Bool
ends_in None g = false
ends_in (Some f) None = false
ends_in (Some f) (Some g) = fragment_goes_on f g

-- the fragments of one part go on in those of the next one: the last one in the first one
abbrev pub fragments_go_on : List FragFound → List FragFound → Bool
fragments_go_on fs gs = ends_in (last_of fs) (slice_get gs 0)

-- a closed part, and its dump's next one on the next tape
unfoldable pub goes_on : PartFound → PartFound → Bool
goes_on p q =
    is_some p.end && (is_some q.end && (p.more && (heads_agree p.head q.head && ((q.head.part == p.head.part + 1) && ((q.head.tape == p.head.tape + 1) && fragments_go_on p.frags q.frags)))))

-- a closed part that ends its dump
unfoldable pub is_ending : PartFound → Bool
is_ending p = is_some p.end && not p.more
