-- The accesses of a guest, the raises of its devices, and the replies to them.
--     Access      a read or write, with a width, in a slot's configuration space, at a port or at an address
--     Raise      bits that the device itself sets in one of its bytes
--     Event, Reply      an access or a raise; a value, done, or a refusal
use Rattle.std.specs.Prelude.{ℕ}

-- a slot and an offset, a port, or a memory address
pub data Target : Type 0 where
  configuration : ℕ → ℕ → Target
  port : ℕ → Target
  address : ℕ → Target

-- a write has a value, whose low bytes are written according to the width
pub data Op : Type 0 where
  reads : Op
  writes : ℕ → Op

pub record Access : Type 0 where
  pub target : Target
  pub width : ℕ
  pub op : Op

-- configuration space, or the region that starts at a base address register
pub data RaisePlace : Type 0 where
  in_config : RaisePlace
  in_region : ℕ → RaisePlace

pub record Raise : Type 0 where
  pub slot : ℕ
  pub part : RaisePlace
  pub offset : ℕ
  pub mask : ℕ

pub data Event : Type 0 where
  access : Access → Event
  raises : Raise → Event

-- a value and its width, done, or the error number of a refusal
pub data Reply : Type 0 where
  answered : ℕ → ℕ → Reply
  done : Reply
  refused : ℕ → Reply
