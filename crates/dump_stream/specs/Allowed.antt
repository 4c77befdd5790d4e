-- What the type of an increment allows.
use Rattle.std.specs.Prelude.{◌≡◌, ℕ, ◌<◌, ◌^◌, List, length, All, Option, IfSome}
use Rattle.bk_text.specs.Alphabets.{IsName}
use Rattle.vnode_model.specs.declared.headers.HeaderFields.{HeaderFields}
use Rattle.vnode_model.specs.declared.vnodes.Vnode.{Vnode}
use Rattle.vnode_model.specs.declared.increments.Entry.{Entry}
use Rattle.vnode_model.specs.declared.increments.Entry.TheVariants.{Whole, Kept}
use Rattle.vnode_model.specs.declared.increments.Increment.{Increment}
use Rattle.vnode_model.specs.Headers.{IsVolHeader}
use Rattle.vnode_model.specs.Limits.{AreFit}
use Rattle.dump_stream.specs.Forms.{IsBytes}

-- numbers of two bytes and of four
abbrev pub IsShort : ℕ → Type 0
IsShort n = n < 2 ^ 16

-- a number of four bytes: below 2^32, as ids, counts and times in seconds since 1970 are
abbrev pub IsNumber : ℕ → Type 0
IsNumber n = n < 2 ^ 32

-- each number has its width, the name is one, and the header keeps its limits
pub record AllowedHeader (h : HeaderFields) : Type 0 where
  pub id : IsNumber h.id
  pub stamp : IsNumber h.stamp
  pub name : IsName h.name
  pub in_service : h.in_service < 256
  pub blessed : h.blessed < 256
  pub uniq : IsNumber h.uniq
  pub parent : IsNumber h.parent
  pub clone_id : IsNumber h.clone_id
  pub max_quota : IsNumber h.max_quota
  pub min_quota : IsNumber h.min_quota
  pub disk_used : IsNumber h.disk_used
  pub file_count : IsNumber h.file_count
  pub account : IsNumber h.account
  pub owner : IsNumber h.owner
  pub created : IsNumber h.created
  pub accessed : IsNumber h.accessed
  pub updated : IsNumber h.updated
  pub expires : IsNumber h.expires
  pub backed_up : IsNumber h.backed_up
  pub offline : IsBytes h.offline
  pub message : IsBytes h.message
  pub week : All IsNumber h.week
  pub days : length h.week ≡ 7
  pub day_date : IsNumber h.day_date
  pub day_use : IsNumber h.day_use
  pub updates : IfSome h.updates IsNumber
  pub limits : IsVolHeader h

-- each number has its width, an access list has 192 bytes, and data are bytes
pub record AllowedVnode (v : Vnode) : Type 0 where
  pub number : IsNumber v.number
  pub uniq : IsNumber v.uniq
  pub links : IsShort v.links
  pub data_version : IsNumber v.data_version
  pub modified : IsNumber v.modified
  pub author : IsNumber v.author
  pub owner : IsNumber v.owner
  pub group : IsNumber v.group
  pub mode : IsShort v.mode
  pub parent : IsNumber v.parent
  pub server_modified : IsNumber v.server_modified
  pub access : IsBytes v.access
  pub access_len : length v.access ≡ 192
  pub body : IsBytes v.body

-- a whole vnode's fields have their widths, and so do the number and the uniquifier of a kept one
abbrev pub AllowedEntry : Entry → Type 0
AllowedEntry (Whole v) = AllowedVnode v
AllowedEntry (Kept number uniq) = IsNumber number × IsNumber uniq

-- the same of all parts, and the entries have the order, the parity and the limits
pub record Allowed (i : Increment) : Type 0 where
  pub dump_id : IsNumber i.dump_id
  pub dump_name : IsName i.dump_name
  pub from : IsNumber i.from
  pub to : IsNumber i.to
  pub header : AllowedHeader i.header
  pub entries : All AllowedEntry i.entries
  pub fit : AreFit i.entries

-- ---- parts of these, for the proof that every value of the types keeps them

-- the header's ids, its stamp and its uniquifier have four bytes each, in service and blessed one
pub record AllowedIds (h : HeaderFields) : Type 0 where
  pub id : IsNumber h.id
  pub stamp : IsNumber h.stamp
  pub in_service : h.in_service < 256
  pub blessed : h.blessed < 256
  pub uniq : IsNumber h.uniq
  pub parent : IsNumber h.parent
  pub clone_id : IsNumber h.clone_id

-- the header's quotas, its disk use, its count of files, its account and its owner have four bytes each
pub record AllowedCounts (h : HeaderFields) : Type 0 where
  pub max_quota : IsNumber h.max_quota
  pub min_quota : IsNumber h.min_quota
  pub disk_used : IsNumber h.disk_used
  pub file_count : IsNumber h.file_count
  pub account : IsNumber h.account
  pub owner : IsNumber h.owner

-- the header's five times, in seconds since 1970, have four bytes each
pub record AllowedTimes (h : HeaderFields) : Type 0 where
  pub created : IsNumber h.created
  pub accessed : IsNumber h.accessed
  pub updated : IsNumber h.updated
  pub expires : IsNumber h.expires
  pub backed_up : IsNumber h.backed_up

-- A week has seven numbers of four bytes, the day's date and uses one each, and so has an update counter, if any.
pub record AllowedUses (h : HeaderFields) : Type 0 where
  pub week : All IsNumber h.week
  pub days : length h.week ≡ 7
  pub day_date : IsNumber h.day_date
  pub day_use : IsNumber h.day_use
  pub updates : IfSome h.updates IsNumber

-- a vnode's numbers up to its author have their widths: the count of links two bytes, the others four
pub record AllowedNumbers (v : Vnode) : Type 0 where
  pub number : IsNumber v.number
  pub uniq : IsNumber v.uniq
  pub links : IsShort v.links
  pub data_version : IsNumber v.data_version
  pub modified : IsNumber v.modified
  pub author : IsNumber v.author
