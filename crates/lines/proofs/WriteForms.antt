-- Writes of firmware, by their first word.
use Rattle.std.{proofs.Common.{◌≡◌, true, false, [], ◌∷◌, Option, option_map, codes, refl}, specs.Str.bytes_eq}
use Rattle.model_guests.specs.{Grammar.{HostRead, host_port, host_address, host_at}, Text.Text}
use Rattle.model_lines.specs.FirmwareLines.{asked, config_place, written_at, host_write_of}

module _ (op a w v : Text) {place : Option HostRead} where
  pub write_of_iw : place ≡ host_at host_port a w → bytes_eq op (codes "iw") ≡ true
      → option_map asked (written_at v place) ≡ option_map asked (host_write_of (op ∷ a ∷ w ∷ v ∷ []))
  write_of_iw at is = rw (at, is) refl

  pub write_of_mw : place ≡ host_at host_address a w → bytes_eq op (codes "iw") ≡ false → bytes_eq op (codes "mw") ≡ true
      → option_map asked (written_at v place) ≡ option_map asked (host_write_of (op ∷ a ∷ w ∷ v ∷ []))
  write_of_mw at other is = rw (at, other, is) refl

  pub write_of_cw : (b : Text) → place ≡ config_place a b w → bytes_eq op (codes "cw") ≡ true
      → option_map asked (written_at v place) ≡ option_map asked (host_write_of (op ∷ a ∷ b ∷ w ∷ v ∷ []))
  write_of_cw b at is = rw (at, is) refl
