-- Bytes that are compared with a slot that is filled.
use Rattle.std.proofs.Common.{◌≡◌, ℕ, false, List, [], ◌∷◌, Ok, Err, Some, refl, ap, ◌∙◌}
use Rattle.model_registers.specs.{Decoding.Function, Declarations.Endpoint, EndpointTable.endpoint_reset}
use Rattle.model_images.specs.{ImageBytes.declaration_bytes, LoadedBytes.{Left, after_bytes, after_slot, after_values, then_read}}
use Rattle.images.{proofs.ComparedBytes.{ends, goes_on}, specs.Shown.after_filled}

pub filled_is : (f : Function) (bytes : List ℕ) → after_filled f.decl bytes ≡ after_slot (Some f) bytes
unfolding after_filled
filled_is f bytes = refl

module _ (d : Endpoint) (bytes : List ℕ) where
  abbrev values : List ℕ → Left
  values = after_values (endpoint_reset d false)

  pub tag_ends : (n : ℕ) → after_bytes 906 (1 ∷ []) bytes ≡ Err n → after_filled d bytes ≡ Err n
  unfolding after_filled
  tag_ends n h = ap (then_read values) (ends 906 n (1 ∷ []) (declaration_bytes d) bytes h)

  module _ (next : List ℕ) (tag : after_bytes 906 (1 ∷ []) bytes ≡ Ok next) where
    declared : after_bytes 906 (1 ∷ declaration_bytes d) bytes ≡ after_bytes 906 (declaration_bytes d) next
    declared = goes_on 906 (1 ∷ []) (declaration_bytes d) bytes next tag

    pub declaration_ends : (n : ℕ) → after_bytes 906 (declaration_bytes d) next ≡ Err n → after_filled d bytes ≡ Err n
    unfolding after_filled
    declaration_ends n h = ap (then_read values) (declared ∙ h)

    pub values_decide : (rest : List ℕ) → after_bytes 906 (declaration_bytes d) next ≡ Ok rest → after_filled d bytes ≡ after_values (endpoint_reset d false) rest
    unfolding after_filled
    values_decide rest h = ap (then_read values) (declared ∙ h)
