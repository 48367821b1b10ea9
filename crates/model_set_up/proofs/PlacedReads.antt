-- After set-up an endpoint decodes the addresses of its placed regions, and every bridge above forwards them.
use Rattle.std.{proofs.{Common.{◌≡◌, ℕ, ◌+◌, ◌*◌, ◌%◌, ◌^◌, ◌<◌, List, Option, refl, ap, ◌∙◌, subst, arith}, lemmas.Bool.ltb-true, Math.Nat.mul-mod_left}, specs.Prelude.MatchOption}
use Rattle.model_registers.specs.{Declarations.{Kind, io_kind, Region, registers_of, least_size, IsLawfulRegion, Bridge}, Apertures.{IsLawfulApertures, Aperture, Apertures}}
use Rattle.model_set_up.{specs.{Pools.{Pool, pool_of, aperture_of}, Layout.LayoutRow, Extents.IsInside, Packing.IsPowerOfTwo}, proofs.{Packing.{Divides, divides_chain, powers_divide, power_positive}, Nesting.divides_from, SetUpRegisters.FitsRegister}}

-- ---- a placed address fits its register

abbrev pub InAperture : Apertures → Pool → LayoutRow → Type 0
InAperture a pool r = MatchOption (aperture_of a pool) ⊥ (λ ap. IsInside ap.first (ap.last + 1) r.first r.size)

limit_by : (i m : Aperture) (o : Option Aperture) (above : List Bridge) (k : Kind) (r : LayoutRow) → IsLawfulApertures (record { io = i; mem = m; pref = o })
    → InAperture (record { io = i; mem = m; pref = o }) (pool_of (record { io = i; mem = m; pref = o }) above k) r → 0 < r.size → r.first < 256 ^ (4 * registers_of k)
limit_by i m o above k r lawful h some = grind (arith, ltb-true)

least_power : (k : Kind) → IsPowerOfTwo (least_size k)
least_power io_kind = (2, refl)
least_power pref = (4, refl)

remainder : (m n : ℕ) → Divides m n → n % m ≡ 0
remainder m n h = ap (λ x. x % m) h.1 ∙ mul-mod_left h.0 m

pub fits_register : (a : Apertures) (above : List Bridge) (g : Region) (r : LayoutRow) → IsLawfulApertures a → IsLawfulRegion g → r.size ≡ g.size → r.first % r.size ≡ 0 → InAperture a (pool_of a above g.kind) r → FitsRegister g.kind r.first
fits_register a above g r lawful region same aligned inside = record {
  aligned = remainder (least_size g.kind) r.first
      (divides_chain (least_size g.kind) g.size r.first (powers_divide (least_size g.kind) g.size (least_power g.kind) region.size_is_lawful.power region.size_is_lawful.not_less)
      (divides_from g.size r.first (subst (λ n. r.first % n ≡ 0) same aligned)));
  small = limit_by a.io a.mem a.pref above g.kind r lawful inside (omega (arith, power_positive g.size region.size_is_lawful.power, same));
}
