-- Layouts that are not lawful, one rule at a time; and the main board keeps what the laws of placement ask for.
use Rattle.std.{proofs.Common.{◌≡◌, ℕ, ◌≤◌, ◌<◌, ◌⊎◌, List, [], ◌∷◌, true, false, refl, arith, lit<, lit≤}, specs.Prelude.IsTrue}
use Rattle.model_registers.specs.Apertures.{IsLawfulApertures}
use Rattle.model_board.{specs.{Paths.Path, Board.{Board, bridge}, Examples.{part, function_at, main_board, main_apertures, memory_bridge}}, proofs.LawfulBoards.{main_is_board, main_decls_lawful}}
use Rattle.model_set_up.{specs.{Pools.{Pool, io_pool, mem_pool}, Placement.{a_region, a_window, fits}, Layout.{LayoutRow, IsLawful, layout}}, proofs.LawfulPlacement.layout_is_lawful}

abbrev window : Pool → Path → ℕ → ℕ → LayoutRow
window pool p first size = record { path = p; what = a_window; pool = pool; first = first; size = size }

abbrev placed : Pool → Path → ℕ → ℕ → LayoutRow
placed pool p first size = record { path = p; what = a_region 0; pool = pool; first = first; size = size }

abbrev Refused : List LayoutRow → Type 0
Refused rows = IsLawful [] main_apertures rows → ⊥

-- two rows that meet
meet : (a b c d : ℕ) → a < b → c < d → (b ≤ a) ⊎ (d ≤ c) → ⊥
meet a b c d h k e = grind arith

-- ---- alignment

pub region_off_its_size : Refused (placed mem_pool (part 1 0 ∷ []) 0xc0000800 0x1000 ∷ [])
region_off_its_size h = let e : ◌≡◌ {A = ℕ} 0x800 0 = h.aligned.0 in omega arith

pub window_off_its_unit : Refused (window io_pool (part 1 0 ∷ []) 0x1800 0x1000 ∷ [])
window_off_its_unit h = let e : ◌≡◌ {A = ℕ} 0x800 0 = h.aligned.0.0 in omega arith

pub window_of_half_a_unit : Refused (window mem_pool (part 1 0 ∷ []) 0xc0000000 0x80000 ∷ [])
window_of_half_a_unit h = let e : ◌≡◌ {A = ℕ} 0x80000 0 = h.aligned.0.1 in omega arith

-- ---- apertures

pub before_the_aperture : Refused (placed mem_pool (part 1 0 ∷ []) 0xbffff000 0x1000 ∷ [])
before_the_aperture h = let e : 0xc0000000 ≤ 0xbffff000 = h.in_apertures.0.0 in omega arith

pub past_the_aperture : Refused (placed mem_pool (part 1 0 ∷ []) 0xe0000000 1 ∷ [])
past_the_aperture h = let e : 0xe0000001 ≤ 0xe0000000 = h.in_apertures.0.1 in omega arith

-- ---- rows of one bus

pub one_shared_byte : Refused (placed io_pool (part 1 0 ∷ []) 0x1000 9 ∷ placed io_pool (part 2 0 ∷ []) 0x1008 8 ∷ [])
one_shared_byte h = meet 0x1008 0x1009 0x1000 0x1010 (lit< tt) (lit< tt) (h.apart.0.0 refl)

pub one_shared_byte_turned : Refused (placed io_pool (part 2 0 ∷ []) 0x1008 8 ∷ placed io_pool (part 1 0 ∷ []) 0x1000 9 ∷ [])
one_shared_byte_turned h = meet 0x1000 0x1010 0x1008 0x1009 (lit< tt) (lit< tt) (h.apart.0.0 refl)

pub windows_share_a_unit : Refused (window mem_pool (part 1 0 ∷ []) 0xc0000000 0x200000 ∷ window mem_pool (part 2 0 ∷ []) 0xc0100000 0x100000 ∷ [])
windows_share_a_unit h = meet 0xc0100000 0xc0200000 0xc0000000 0xc0200000 (lit< tt) (lit< tt) (h.apart.0.0 refl)

-- ---- windows above

pub before_its_window : Refused (window mem_pool (part 1 0 ∷ []) 0xc0100000 0x100000 ∷ placed mem_pool (part 1 0 ∷ part 0 0 ∷ []) 0xc00ff000 0x1000 ∷ [])
before_its_window h = let e : 0xc0100000 ≤ 0xc00ff000 = (h.under_windows.1.0.inside.0 refl).0 in omega arith

pub past_its_window : Refused (window mem_pool (part 1 0 ∷ []) 0xc0100000 0x100000 ∷ placed mem_pool (part 1 0 ∷ part 0 0 ∷ []) 0xc0200000 1 ∷ [])
past_its_window h = let e : 0xc0200001 ≤ 0xc0200000 = (h.under_windows.1.0.inside.0 refl).1 in omega arith

-- a window two bridges up counts too
pub past_the_upper_window : Refused (window mem_pool (part 1 0 ∷ []) 0xc0000000 0x100000 ∷ window mem_pool (part 1 0 ∷ part 0 0 ∷ []) 0xc0100000 0x100000 ∷ placed mem_pool (part 1 0 ∷ part 0 0 ∷ part 2 0 ∷ []) 0xc0100000 0x1000 ∷ [])
past_the_upper_window h = let e : 0xc0101000 ≤ 0xc0100000 = (h.under_windows.1.1.0.inside.0 refl).1 in omega arith

abbrev one_bridge : Board
one_bridge = function_at (part 1 0 ∷ []) (bridge memory_bridge) ∷ []

-- a bridge above without a window
pub no_window_above : IsLawful one_bridge main_apertures (placed mem_pool (part 1 0 ∷ part 0 0 ∷ []) 0xc0000000 0x1000 ∷ []) → ⊥
no_window_above h = let e : false ≡ true = h.under_windows.0.there.0 refl in cc

-- with one in another pool, or of the bridge beside it
pub window_of_another_pool : IsLawful one_bridge main_apertures (placed mem_pool (part 1 0 ∷ part 0 0 ∷ []) 0xc0000000 0x1000 ∷ window io_pool (part 1 0 ∷ []) 0x1000 0x1000 ∷ []) → ⊥
window_of_another_pool h = let e : false ≡ true = h.under_windows.0.there.0 refl in cc

pub window_of_another_bridge : IsLawful one_bridge main_apertures (placed mem_pool (part 1 0 ∷ part 0 0 ∷ []) 0xc0000000 0x1000 ∷ window mem_pool (part 2 0 ∷ []) 0xc0000000 0x100000 ∷ []) → ⊥
window_of_another_bridge h = let e : false ≡ true = h.under_windows.0.there.0 refl in cc

-- ---- the main board keeps the premises

pub main_apertures_lawful : IsLawfulApertures main_apertures
main_apertures_lawful = grind (arith, lit≤, lit<)

main_pools_fit : (pool : Pool) → IsTrue (fits main_board main_apertures pool)
main_pools_fit pool = grind arith

pub main_layout_lawful : IsLawful main_board main_apertures (layout main_board main_apertures)
main_layout_lawful = layout_is_lawful main_board main_apertures main_is_board main_decls_lawful main_pools_fit
