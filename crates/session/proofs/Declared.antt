-- A file that declares a board, or that is refused.
--     declares      what reading a file says of its world
--     refused_by, refused_file      a file that is refused, by what reading it answers
--     same_world      a host with the board and the apertures of another one has its world
--     opened      what begins with the world of a file is opened of it
use Rattle.std.{proofs.Common.{◌≡◌, Result, Ok, Err, ap₂, arith}, specs.{Prelude.{◌≢◌, List, IfErr, IsUtf8}, Result.IsErrAnd}}
use Rattle.toml.specs.Parse.{parse_document}
use Rattle.model_board.specs.Board.{Board}
use Rattle.model_guests.specs.{Text.Text, World.{Guest, World}}
use Rattle.model_handoff.specs.Changes.{MachineNow, BeginsIn}
use Rattle.host_bridge.specs.HostState.{HostState}
use Rattle.window_packing.specs.Readies.{board_below}
use Rattle.board_file.specs.{declared.fault.BoardFault.BoardFault, Meaning.document_meaning}
use Rattle.monitor.specs.Beginnings.{world_on}
use Rattle.session.specs.{declared.opening.OpenFault.{OpenFault, TheVariants.File}, Faults.OnFile, Files.{Declares, Refuses, IsAtFirst, IsOpened}}
use Rattle.board_file.specs.declared.fault.BoardFault.TheVariants as file
use Rattle.board_file.specs.Faults as board_file

pub declares : {bytes : Text} {w : World} → IsUtf8 bytes × (document_meaning (parse_document bytes) ≡ Ok w) → Declares bytes w
declares (text, meaning) = record { is_text = text; meaning = meaning }

-- ---- a file that is refused

pub refused_by : (bytes : Text) (b : BoardFault)
    → (b ≢ file.Memory → IsUtf8 bytes → document_meaning (parse_document bytes) ≡ Err (board_file.number_of b))
    → (b ≢ file.Memory → ¬ IsUtf8 bytes → b ≡ file.NotToml)
    → b ≢ file.Memory → Refuses bytes (board_file.number_of b)
refused_by bytes b said no_text other = grind arith

pub refused_file : {T : Type 0} (r : Result T OpenFault) (bytes : Text) (b : BoardFault)
    → (b ≢ file.Memory → IsUtf8 bytes → document_meaning (parse_document bytes) ≡ Err (board_file.number_of b))
    → (b ≢ file.Memory → ¬ IsUtf8 bytes → b ≡ file.NotToml)
    → IsErrAnd r (λ f. f ≡ File b) → IfErr r (OnFile (Refuses bytes))
refused_file (Ok x) bytes b said no_text given = absurd given
refused_file (Err f) bytes b said no_text given = grind (arith, refused_by)

-- ---- a board that is set up

pub same_world : (h k : HostState) (gs : List Guest) → board_below k ≡ board_below h → k.apertures ≡ h.apertures
    → world_on k gs ≡ world_on h gs
same_world h k gs = ap₂ (λ (b : Board) a. let w : World = record { board = b; apertures = a; guests = gs } in w)

pub opened : (bytes : Text) (w : World) (m : MachineNow) → Declares bytes w → BeginsIn (IsAtFirst w) m → BeginsIn (IsOpened bytes) m
opened bytes w m declared first = grind arith
