-- A scan of all addresses finds all functions of a numbered state.
use Rattle.std.{proofs.Common.{◌≡◌, ℕ, zero, suc, ◌+◌, ◌*◌, ◌/◌, ◌%◌, ◌<◌, inl, inr, List, [], ◌∷◌, length, Option, Some, None, refl, sym, subst, arith}, specs.{Prelude.{map, find}, List.range_with_len, Option.{option_to_list, option_map_or}}}
use Rattle.lists.{specs.Elements.{Each, IsIn}, proofs.{Members.{each_in, each_from, in_map, in_flat_map}, FirstFound.found_in}}
use Rattle.model_board.specs.{Paths.{Path, parent, last_part, devfn_count, IsPart, IsPath}, Board.Row, State.{BoardFunction, row_at}, Cycles.{secondary_register, BusAddress, reached}}
use Rattle.model_findings.{specs.Found.{is_bridge_at, current_bus_number, current_bdf, IsFoundOnce, address_at, scan_order, scanned, ScanFindsAll}, proofs.Found.found_once}

in_range : (a n k : ℕ) → k < n → IsIn (a + k) (range_with_len a n)
in_range a zero k h = absurd (omega arith)
in_range a (suc n) zero h = inl (omega arith)
in_range a (suc n) (suc k) h = inr (subst (λ z. IsIn z (range_with_len (a + 1) n)) (omega arith) (in_range (a + 1) n k (omega arith)))

below : (n k : ℕ) → k < n → IsIn k (range_with_len 0 n)
below n k h = subst (λ z. IsIn z (range_with_len 0 n)) (omega arith) (in_range 0 n k h)

divides : (d f : ℕ) → f < 8 → (d * 8 + f) / 8 ≡ d
divides d f h = omega arith

leaves : (d f : ℕ) → f < 8 → (d * 8 + f) % 8 ≡ f
leaves d f h = omega arith

-- each address of a byte and a lawful device and function is among those of a scan
in_scan : (at : BusAddress) → at.bus < 256 → IsPart at.part → IsIn at scan_order
in_scan at small lawful =
    let n : ℕ = at.part.device * 8 + at.part.function in
    let fits : at.part.device * 8 + at.part.function < devfn_count = omega (arith, lawful.device_fits, lawful.function_fits) in
    let d : (at.part.device * 8 + at.part.function) / 8 ≡ at.part.device = divides at.part.device at.part.function lawful.function_fits in
    let f : (at.part.device * 8 + at.part.function) % 8 ≡ at.part.function = leaves at.part.device at.part.function lawful.function_fits in
    let same : address_at at.bus (at.part.device * 8 + at.part.function) ≡ at = λ i. record { bus = at.bus; part = record { device = d i; function = f i } } in
    subst (λ x. IsIn x scan_order) same
    (in_flat_map (λ bus. map (address_at bus) (range_with_len 0 devfn_count)) at.bus (address_at at.bus (at.part.device * 8 + at.part.function)) (range_with_len 0 256) (below 256 at.bus small)
    (in_map (address_at at.bus) (at.part.device * 8 + at.part.function) (range_with_len 0 devfn_count) (below devfn_count (at.part.device * 8 + at.part.function) fits)))

last_lawful : (p : Path) → 0 < length p → Each IsPart p → IsPart (last_part p)
last_lawful [] h k = absurd (omega arith)
last_lawful (p ∷ []) h k = k.0
last_lawful (p ∷ q ∷ ps) h k = last_lawful (q ∷ ps) (omega arith) k.1

small_bus : (fs : List BoardFunction) → Each (λ f. secondary_register f.file < 256) fs → (bus : Path) → current_bus_number fs bus < 256
small_bus fs small [] = omega arith
small_bus fs small (p ∷ ps) = by (find (is_bridge_at (p ∷ ps)) fs) refl
  where
    by : (o : Option BoardFunction) → find (is_bridge_at (p ∷ ps)) fs ≡ o → option_map_or (λ (f : BoardFunction). secondary_register f.file) o 0 < 256
    by None e = omega arith
    by (Some f) e = each_in (λ (g : BoardFunction). secondary_register g.file < 256) f fs small (found_in (is_bridge_at (p ∷ ps)) fs f e).0

pub scan_finds_all : ScanFindsAll
scan_finds_all fs state numbered small = each_from (λ f. IsIn f (scanned fs)) fs here
  where
    here : (f : BoardFunction) → IsIn f fs → IsIn f (scanned fs)
    here f m =
        let once : IsFoundOnce fs f = each_in (IsFoundOnce fs) f fs (found_once fs state numbered) m in
        let path : IsPath f.path = each_in (λ (r : Row). IsPath r.path) (row_at f) (map row_at fs) state.places.paths (in_map row_at f fs m) in
        let at : IsIn (current_bdf fs f.path) scan_order = in_scan (current_bdf fs f.path) (small_bus fs small (parent f.path)) (last_lawful f.path path.some path.parts) in
        in_flat_map (λ at. option_to_list (reached fs at)) (current_bdf fs f.path) f scan_order at
        (subst (λ o. IsIn f (option_to_list o)) (sym once.by_address) (inl refl))
