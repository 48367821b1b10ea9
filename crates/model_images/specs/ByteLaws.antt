-- Laws of images as bytes.
--     AreBytes      each number is below 256
--     Spells L bs p      bytes that start with the encoding of a value, followed by the rest
--     IsLayout L      decoding an encoded value returns it, whatever follows, and a decoded value encodes to the same bytes
--     HasBytes i      the numbers of the image fit their fields, and its functions hold values that they can hold
--     BytesAreBytes, BytesAreRead, ReadAreBytes      the bytes of an image decode to it, and no other bytes do
--     OneImage      two images with equal encodings are equal
--     ReadIsOfAGuest      a decoded image belongs to a guest, which it fits
--     IsSavable, IsSavableGuest      a lawful function that holds bytes that it can hold; a guest with such functions
--     GuestsHaveBytes      the image of such a guest has an encoding
use Rattle.std.specs.Prelude.{◌≡◌, ◌<◌, ℕ, List, ◌++◌, Option, Some, None, IsTrue, ⊤, length}
use Rattle.lists.specs.Elements.{Each}
use Rattle.model_registers.specs.{Cell.IsCell, AccessLaws.HoldsBytes, Declarations.{Region, ConfigBlock, Endpoint}, DeclarationRules.IsLawfulEndpoint, Decoding.Function, ConfigAddress.latched}
use Rattle.model_guests.specs.Lone.{LoneGuest}
use Rattle.model_images.specs.{Images.{Image, image_of_lone, Fits}, FitLaws.IsFittingFunction, Layouts.{Layout, Parsed, parsed}, ImageBytes.{image_layout, image_bytes, image_of}}

abbrev pub AreBytes : List ℕ → Type 0
AreBytes bs = Each (λ b. b < 256) bs

pub record Spells {A : Type 0} (L : Layout A) (bs : List ℕ) (p : Parsed A) : Type 0 where
  pub fits : IsTrue (L.fits p.value)
  pub bytes : bs ≡ L.bytes p.value ++ p.rest

pub record IsLayout {A : Type 0} (L : Layout A) : Type 0 where
  pub are_bytes : (x : A) → AreBytes (L.bytes x)
  pub again : (x : A) (rest : List ℕ) → IsTrue (L.fits x) → L.parse (L.bytes x ++ rest) ≡ Some (parsed x rest)
  pub spells : (bs : List ℕ) (p : Parsed A) → L.parse bs ≡ Some p → Spells L bs p

abbrev pub HasBytes : Image → Type 0
HasBytes i = IsTrue (image_layout.fits i)

abbrev pub BytesAreBytes : Type 0
BytesAreBytes = (i : Image) → AreBytes (image_bytes i)

abbrev pub BytesAreRead : Type 0
BytesAreRead = (i : Image) → HasBytes i → image_of (image_bytes i) ≡ Some i

-- any list of numbers
abbrev pub ReadAreBytes : Type 0
ReadAreBytes = (bs : List ℕ) (i : Image) → image_of bs ≡ Some i → (bs ≡ image_bytes i) × HasBytes i

abbrev pub OneImage : Type 0
OneImage = (i j : Image) → HasBytes i → HasBytes j → image_bytes i ≡ image_bytes j → i ≡ j

-- with 32 slots and its CONFIG_ADDRESS
pub record IsImageOf (i : Image) (g : LoneGuest) : Type 0 where
  pub image : image_of_lone g ≡ i
  pub fits : Fits i g

abbrev pub ReadIsOfAGuest : Type 0
ReadIsOfAGuest = (bs : List ℕ) (i : Image) → image_of bs ≡ Some i → (g : LoneGuest) × IsImageOf i g

-- ---- guests that have bytes

pub record HasCells (d : Endpoint) : Type 0 where
  pub regions : Each (λ (r : Region). Each IsCell r.cells) d.regions
  pub blocks : Each (λ (b : ConfigBlock). Each IsCell b.cells) d.blocks

-- its declaration can be serialized
pub record IsDeclared (d : Endpoint) : Type 0 where
  pub lawful : IsLawfulEndpoint d
  pub cells : HasCells d

pub record IsSavable (f : Function) : Type 0 where
  pub declared : IsDeclared f.decl
  pub fits : IsFittingFunction f
  pub bytes : HoldsBytes f.file

abbrev pub HoldsSavable : Option Function → Type 0
HoldsSavable None = ⊤
HoldsSavable (Some f) = IsSavable f

pub record IsSavableGuest (g : LoneGuest) : Type 0 where
  pub latch : latched g.latch ≡ g.latch
  pub count : length g.slots ≡ 32
  pub functions : Each HoldsSavable g.slots

abbrev pub GuestsHaveBytes : Type 0
GuestsHaveBytes = (g : LoneGuest) → IsSavableGuest g → HasBytes (image_of_lone g)
