-- A session and a reply as contracts see them.
use Rattle.std.specs.Prelude.{◌≡◌, ℕ, List, Bool}
use Rattle.tape_config.specs.Configs.{Settings}
use Rattle.budb.specs.Views.{BudbView}
use Rattle.backup_replies.specs.Texts.{has_refusal}
use Rattle.backup_session.specs.declared.groups.Groups.{Groups}

-- what a session knows between two commands
pub record SessionView : Type 0 where
  pub config : Settings
  pub budb : BudbView
  pub time : ℕ
  pub groups : Groups

-- a reply, and whether it refuses
pub record ReplyView : Type 0 where
  pub text : List ℕ
  pub refused : Bool

-- a reply refuses where some line of it begins with `refused`
abbrev pub IsReply : ReplyView → Type 0
IsReply reply = reply.refused ≡ has_refusal reply.text
