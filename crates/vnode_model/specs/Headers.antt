-- What a volume's header keeps.
use Rattle.std.specs.Prelude.{◌≢◌, ℕ, ◌≤◌, List, length, All}
use Rattle.vnode_model.specs.declared.headers.HeaderFields.{HeaderFields}

-- the most bytes of an offline message or of a message of the day
abbrev pub most_message : ℕ
most_message = 1024

-- an offline message or a message of the day has at most so many bytes, none of them 0
pub record IsMessage (text : List ℕ) : Type 0 where
  pub short : length text ≤ most_message
  pub each : All (λ b. b ≢ 0) text

-- the volume types are 0 read/write, 1 read-only and 2 backup
pub record IsVolHeader (h : HeaderFields) : Type 0 where
  pub kind : h.kind ≤ 2
  pub offline : IsMessage h.offline
  pub message : IsMessage h.message
