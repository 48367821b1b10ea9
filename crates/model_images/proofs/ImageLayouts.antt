-- The layout of an image, put together from those of its parts.
use Rattle.std.{proofs.Common.{◌≡◌, ℕ, true, false, eqb, refl, arith}, specs.Prelude.{length, nat_lt}}
use Rattle.lists.proofs.Tests.{right_true}
use Rattle.model_registers.specs.{ConfigAddress.latched, Declarations.{Kind, Region, ConfigBlock, Endpoint}, Cell.Cell, EndpointTable.endpoint_reset}
use Rattle.model_images.{specs.{Images.{SavedFunction, Image, fit_cells}, Layouts.number, ImageBytes.{magic, version, CellParts, cell_layout, kind_number, kind_of, kind_layout, RegionParts, region_layout, block_layout, Pin, pin_number, pin_of, pin_layout, identity_layout, fixed_layout, endpoint_of_parts, parts_of_endpoint, endpoint_layout, values_layout, function_layout, latch_layout, ImageParts, image_layout}, ByteLaws.IsLayout}, proofs.{Numbers.number_is, Layouts.{checked_is, through_is, checked_through_is, followed_is, both_is, exactly_is, repeated_is, counted_is, optional_is}}}

-- ---- declarations

pub cell_is : IsLayout cell_layout
cell_is =
    through_is _ (both_is _ _ (number_is 1) (both_is _ _ (number_is 1) (number_is 1))) (λ (x : CellParts). record { value = x.0; writable = x.1.0; clearable = x.1.1 })
    (λ (c : Cell). (c.value, (c.writable, c.clearable))) (λ c. refl) (λ x h. refl)

kind_back : (k : Kind) → kind_of (kind_number k) ≡ k
kind_back k = grind arith

kind_same : (n : ℕ) → nat_lt n 5 ≡ true → kind_number (kind_of n) ≡ n
kind_same n h = grind arith

pub kind_is : IsLayout kind_layout
kind_is = through_is _ (checked_is _ (number_is 1) (λ n. nat_lt n 5)) kind_of kind_number kind_back (λ n h. kind_same n (right_true ((number 1).fits n) (nat_lt n 5) h))

pub region_is : IsLayout region_layout
region_is =
    through_is _ (both_is _ _ (number_is 1) (both_is _ _ kind_is (both_is _ _ (number_is 8) (counted_is _ cell_is 2))))
    (λ (x : RegionParts). record { index = x.0; kind = x.1.0; size = x.1.1.0; cells = x.1.1.1 }) (λ (r : Region). (r.index, (r.kind, (r.size, r.cells)))) (λ r. refl) (λ x h. refl)

pub block_is : IsLayout block_layout
block_is = through_is _ (both_is _ _ (number_is 1) (counted_is _ cell_is 1)) (λ x. record { offset = x.0; cells = x.1 }) (λ (b : ConfigBlock). (b.offset, b.cells)) (λ b. refl) (λ x h. refl)

identity_is : IsLayout identity_layout
identity_is = both_is _ _ (number_is 2) (both_is _ _ (number_is 2) (both_is _ _ (number_is 1) (both_is _ _ (number_is 3) (both_is _ _ (number_is 2) (number_is 2)))))

pin_back : (x : Pin) → nat_lt x.0 0x80 ≡ true → pin_of (pin_number x) ≡ x
pin_back x h = grind arith

pin_same : (n : ℕ) → nat_lt n 256 ≡ true → pin_number (pin_of n) ≡ n
pin_same n h = grind arith

pub pin_is : IsLayout pin_layout
pin_is = checked_through_is (number 1) (number_is 1) pin_of pin_number (λ x. nat_lt x.0 0x80) pin_back pin_same

fixed_is : IsLayout fixed_layout
fixed_is = both_is _ _ pin_is (both_is _ _ (number_is 1) (both_is _ _ (number_is 1) (number_is 2)))

pub endpoint_is : IsLayout endpoint_layout
endpoint_is =
    through_is _ (both_is _ _ identity_is (both_is _ _ fixed_is (both_is _ _ (counted_is _ region_is 1) (counted_is _ block_is 1)))) endpoint_of_parts parts_of_endpoint (λ d. refl)
    (λ x h. refl)

-- ---- functions and guests

pub values_is : (d : Endpoint) → IsLayout (values_layout d)
values_is d = checked_is _ (repeated_is _ (number_is 1) (length (endpoint_reset d false))) (fit_cells (endpoint_reset d false))

pub function_is : IsLayout function_layout
function_is =
    through_is _ (followed_is endpoint_layout values_layout endpoint_is values_is) (λ x. record { decl = x.0; values = x.1 }) (λ (s : SavedFunction). (s.decl, s.values)) (λ s. refl) (λ x h. refl)

pub latch_is : IsLayout latch_layout
latch_is = checked_is _ (number_is 4) (λ n. eqb (latched n) n)

pub image_is : IsLayout image_layout
image_is =
    through_is _ (both_is _ _ (exactly_is 4 magic) (both_is _ _ (exactly_is 4 version) (both_is _ _ latch_is (repeated_is _ (optional_is _ function_is) 32))))
    (λ (x : ImageParts). record { latch = x.1.1.0; slots = x.1.1.1 }) (λ (i : Image). (tt, (tt, (i.latch, i.slots)))) (λ i. refl) (λ x h. refl)
