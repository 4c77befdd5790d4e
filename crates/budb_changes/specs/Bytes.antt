-- The bytes of changes. Records have a form of version 1 and one of version 2.
use Rattle.std.specs.Prelude.{ℕ, List, [], ◌∷◌, ◌++◌, length}
use Rattle.std.specs.List.{flat_map}
use Rattle.bk_text.specs.declared.expiry.Expiry.{Expiry}
use Rattle.bk_text.specs.declared.expiry.Expiry.TheVariants.{Unset, Never, At, In}
use Rattle.byte_formats.specs.Bytes.{two, four, text1, text2, any_or}
use Rattle.budb_changes.specs.declared.version.Version.{Version}
use Rattle.budb_changes.specs.declared.version.Version.TheVariants.{One, Two}
use Rattle.budb_changes.specs.declared.records.TapePart.{TapePart}
use Rattle.budb_changes.specs.declared.records.Frag.{Frag}
use Rattle.budb_changes.specs.declared.records.VolRecordFields.{VolRecordFields}
use Rattle.budb_changes.specs.declared.records.DumpRecordFields.{DumpRecordFields}
use Rattle.budb_changes.specs.declared.change.Change.{Change}
use Rattle.budb_changes.specs.declared.change.Change.TheVariants.{AddSet, DelSet, AddEntry, DelEntry, AddLevel, SetExpiry, DelLevel, AddHost, DelHost, Begin, Take, Done1, Forget, Found1, Done, Found}

-- 0 none, 1 never, 2 at a moment, 3 in years, months and days
unfoldable pub expiry_kind : Expiry → ℕ
expiry_kind Unset = 0
expiry_kind Never = 1
expiry_kind (At moment) = 2
expiry_kind (In years months days) = 3

unfoldable pub expiry_fields : Expiry → List ℕ
expiry_fields Unset = []
expiry_fields Never = []
expiry_fields (At moment) = four moment
expiry_fields (In years months days) = two years ++ (two months ++ two days)

unfoldable pub expiry_bytes : Expiry → List ℕ
expiry_bytes expiry = expiry_kind expiry ∷ expiry_fields expiry

-- what version 2 tells of a tape besides: how often it was used, and its permanent name
unfoldable pub use_bytes : Version → ℕ → List ℕ → List ℕ
use_bytes One uses permanent = []
use_bytes Two uses permanent = four uses ++ text1 permanent

unfoldable pub tape_bytes : Version → TapePart → List ℕ
tape_bytes version t = (four t.tape ++ (four t.first ++ (four t.end ++ four t.marks))) ++ use_bytes version t.uses t.permanent

unfoldable pub frag_bytes : Frag → List ℕ
frag_bytes f = four f.tape ++ four f.at

-- fragments behind their count in two bytes
unfoldable pub frags_bytes : List Frag → List ℕ
frags_bytes frags = two (length frags) ++ flat_map frag_bytes frags

unfoldable pub volume_bytes : VolRecordFields → List ℕ
volume_bytes v = text1 v.name ++ (four v.id ++ (text1 v.server ++ (text1 v.partition ++ (four v.clone ++ (four v.from ++ frags_bytes v.frags)))))

-- tapes behind their count in two bytes, volumes behind theirs in four
unfoldable pub tapes_bytes : Version → List TapePart → List ℕ
tapes_bytes version tapes = two (length tapes) ++ flat_map (tape_bytes version) tapes

unfoldable pub volumes_bytes : List VolRecordFields → List ℕ
volumes_bytes volumes = four (length volumes) ++ flat_map volume_bytes volumes

-- what a record of either version begins with
unfoldable pub heading_bytes : DumpRecordFields → List ℕ
heading_bytes d = (four d.id ++ (four d.initial ++ (four d.parent ++ four d.expires))) ++ (text1 d.set ++ (text2 d.level ++ text1 d.base))

-- the cell, of which version 2 alone tells
unfoldable pub cell_bytes : Version → List ℕ → List ℕ
cell_bytes One cell = []
cell_bytes Two cell = text1 cell

unfoldable pub dump_bytes : Version → DumpRecordFields → List ℕ
dump_bytes version d = heading_bytes d ++ (tapes_bytes version d.tapes ++ (volumes_bytes d.volumes ++ cell_bytes version d.cell))

-- the numbers of the kinds
unfoldable pub kind_of : Change → ℕ
kind_of (AddSet set) = 1
kind_of (DelSet set) = 2
kind_of (AddEntry set server partition pattern) = 3
kind_of (DelEntry set number) = 4
kind_of (AddLevel level expiry) = 5
kind_of (SetExpiry level expiry) = 6
kind_of (DelLevel level) = 7
kind_of (AddHost host port) = 8
kind_of (DelHost port) = 9
kind_of (Begin id) = 10
kind_of (Take initial) = 11
kind_of (Done1 dump) = 12
kind_of (Forget id) = 13
kind_of (Found1 dump) = 14
kind_of (Done dump) = 15
kind_of (Found dump) = 16

-- the fields of each kind
unfoldable pub fields_of : Change → List ℕ
fields_of (AddSet set) = text1 set
fields_of (DelSet set) = text1 set
fields_of (AddEntry set server partition pattern) = text1 set ++ (any_or server ++ (any_or partition ++ text2 pattern))
fields_of (DelEntry set number) = text1 set ++ four number
fields_of (AddLevel level expiry) = text2 level ++ expiry_bytes expiry
fields_of (SetExpiry level expiry) = text2 level ++ expiry_bytes expiry
fields_of (DelLevel level) = text2 level
fields_of (AddHost host port) = text1 host ++ two port
fields_of (DelHost port) = two port
fields_of (Begin id) = four id
fields_of (Take initial) = four initial
fields_of (Done1 dump) = dump_bytes One dump
fields_of (Forget id) = four id
fields_of (Found1 dump) = dump_bytes One dump
fields_of (Done dump) = dump_bytes Two dump
fields_of (Found dump) = dump_bytes Two dump

-- the byte of the kind, and the fields behind it
unfoldable pub encoded_change : Change → List ℕ
encoded_change change = kind_of change ∷ fields_of change

-- one change behind another
unfoldable pub encoded : List Change → List ℕ
encoded changes = flat_map encoded_change changes
