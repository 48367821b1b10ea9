use Rattle.std.{proofs.{Common.{◌≡◌, ◌/◌, ◌∙◌, refl, Bool, Some, arith, bit_and, nat_eq, not}, lemmas.Grind.common_steps}, specs.Prelude.Option}
use Rattle.model_registers.specs.{Registers.File, EndpointTable.endpoint_reset, BridgeTable.bridge_file}
use Rattle.model_board.specs.{Paths.Path, Board.{Board, Decl, endpoint, bridge, has_multifunction_bit}, Cycles.reached, Lawful.IsLawfulDecl, State.BoardFunction}
use Rattle.model_set_up.specs.Scanning.{BusNumbers, numbered_file, with_numbers}
use Rattle.paths.specs.BusAddresses.{bus_address_of}
use Rattle.bus_scan.specs.{declared.probed_header.ProbedHeader.ProbedHeader, Sights.seen_of}
use Rattle.bus_scan.proofs.probed_header.probe_header.Goals as goal

-- the file of a function during a scan, with this bit in its header type
abbrev file_with : Bool → BusNumbers → Decl → File
file_with t n (endpoint d) = endpoint_reset d t
file_with t n (bridge d) = bridge_file d t (with_numbers n)

pub returns-clause-some : goal.returns-clause-some
returns-clause-some c = λ b numbers f at file lawful. by_decl (has_multifunction_bit b f.path) (numbers f.path) f f.decl at (file ∙ same b numbers f f.decl) lawful
  where
    same : (b : Board) (numbers : Path → BusNumbers) (f : BoardFunction) (d : Decl) → numbered_file b numbers f.path d ≡ file_with (has_multifunction_bit b f.path) (numbers f.path) d
    same b numbers f (endpoint d) = refl
    same b numbers f (bridge d) = refl

    by_decl : (t : Bool) (n : BusNumbers) (f : BoardFunction) (d : Decl) → reached c.args.host.now.state.functions (bus_address_of c.args.at) ≡ Some f → f.file ≡ file_with t n d → IsLawfulDecl d
        → ◌≡◌ {A = Option ProbedHeader} (Some (record { vendor = bit_and c.config_read-identity.result 65535; device = c.config_read-identity.result / 65536; is_multifunction = not (nat_eq (bit_and c.byte_of-header_type.result 128) 0); layout = c.if-header_type-eq1.layout })) (Some (seen_of t d))
    by_decl t n f (endpoint d) at file lawful = grind (arith, common_steps)
    by_decl t n f (bridge d) at file lawful = grind (arith, common_steps)
