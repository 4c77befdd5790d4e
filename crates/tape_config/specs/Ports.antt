-- What holds of every port of a configuration.
use Rattle.std.specs.Prelude.{◌⊎◌, ◌<◌, ◌≤◌, ℕ}
use Rattle.tape_config.specs.declared.port.PortFields.{PortFields}

-- a port within its limits
pub record IsWithinLimits (port : PortFields) : Type 0 where
  pub offset : port.offset ≤ 58510
  pub some : 0 < port.capacity
  pub capacity : port.capacity ≤ 4000000000
  pub filemark : port.filemark ≤ 4000000000
  pub ordered : port.first ≤ port.last
  pub last : port.last ≤ 65535

-- a slot is one of a port
abbrev pub IsAmong : PortFields → ℕ → Type 0
IsAmong port k = (port.first ≤ k) × (k ≤ port.last)

-- two ports that have no slot in common
abbrev pub AreApart : PortFields → PortFields → Type 0
AreApart p q = (p.last < q.first) ⊎ (q.last < p.first)
