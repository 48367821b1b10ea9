-- What the parts of a function take of its values: bytes one after the other, blocks of configuration space, and regions.
--     Passed k goal rest now back      the function has become another, and what is left to do makes it what is asked
--     begins, passes, finishes      at first, after one thing more, and at last
--     put_here      bytes that a device puts, where code holds the function's index
--     any_there      a test that an element passes
--     status_reached, block_reached, region_reached      the bytes that a device reaches
--     status_put      the device puts Status
--     told_blocks, told_regions      how many there are, as code reads it
--     IsBlockAt, some_block, block_told      a block of an endpoint, as code reads it
--     some_region, region_told      a region of it
--     AtBlock, first_block, next_block, last_block      the blocks from one on, at first, after one more, and at last
--     AtRegion, first_region, next_region, last_region      the same of regions
--     region_done      one region's register and cells
--     many_values      how many values fit a function
--     enough_header, enough_blocks, enough_regions      so many are left for each part
--     all_parts      the header, the blocks and the regions
use Rattle.std.{proofs.{Common.{◌≡◌, ◌⊎◌, inl, inr, ◌≤◌, ◌<◌, ◌+◌, ◌*◌, ◌^◌, ◌==◌, ◌&&◌, ℕ, zero, suc, Bool, true, false, List, [], ◌∷◌, length, Some, slice_get, drop, take, refl, sym, ap, ◌∙◌, subst, arith, length-append}, lemmas.{Bool.{lt-ltb, Decides.nat_tests}, List.{drop_all, drop-drop, length-drop}}}, specs.{Prelude.{flat_map, nat_lt}, List.list_any}}
use Rattle.lists.proofs.{Indices.{at_below, each_at}, Tests.right_true}
use Rattle.model_registers.proofs.LawfulDeclarations.{byte_in_place}
use Rattle.model_registers.specs.{Registers.{config, block, File}, Declarations.{ConfigBlock, Endpoint, IsLawfulRegion, Region, registers_of}, DeclarationRules.IsConfigBlock, DeviceBytes.is_device_byte, EndpointTable.{block_cells, endpoint_reset, region_cells}, Decoding.Function}
use Rattle.model_images.specs.{Images.{can_hold, fit_cells}, StepLaws.{base_size, blocks_size, blocks_steps, header_steps, header_values, put_run, region_steps, regions_steps, steps, written_run}}
use Rattle.model_images.proofs.BlockCounts.{many_cells}
use Rattle.images.proofs.Lengths.{cells_count, few_registers, region_cell_count}
use Rattle.headers.specs.{declared.place.Place.TheVariants.{Cfg, Bar}, Places.place_of}
use Rattle.bridge_forward.specs.Lending.{endpoint_nth}
use Rattle.host_bridge.specs.HostState.{HostState}
use Rattle.window_packing.proofs.Gathering.{drop_at}
use Rattle.monitor.{specs.{declared.guest.Guest.Guest, Loadings.{KeepsFunction, Becomes, IsLoadable, regions_size}}, proofs.LoadSteps.{IsPut, ReachesByte, chained, go_on, its_decl, its_lawful, its_row, nothing_yet, put_all}}
use Rattle.headers.specs.declared.place.Place as headers

-- ---- one thing after the other

pub record Passed {h : HostState} {gs : List Guest} {i n : ℕ} (k : KeepsFunction h gs i n) (goal : File) (rest : File → File) (now : HostState) (back : List Guest) : Type 0 where
  pub file : File
  pub becomes : Becomes k file now back
  pub ends : rest file ≡ goal

module _ {h : HostState} {gs : List Guest} {i n : ℕ} (k : KeepsFunction h gs i n) where
  pub begins : (rest : File → File) → Passed k (rest k.f.file) rest h gs
  begins rest = record { file = k.f.file; becomes = nothing_yet k; ends = refl }

  module _ {goal : File} {now : HostState} {back : List Guest} where
    pub passes : {rest : File → File} (p : Passed k goal rest now back) {file : File} (rest_now : File → File) {new : HostState} {left : List Guest}
        → Becomes (go_on k p.becomes) file new left → rest p.file ≡ rest_now file → Passed k goal rest_now new left
    passes p {file} rest_now becomes same = record { file = file; becomes = chained k p.becomes becomes; ends = sym same ∙ p.ends }

    pub finishes : {rest : File → File} (p : Passed k goal rest now back) → rest p.file ≡ p.file → Becomes k goal now back
    finishes p none = subst (λ (file : File). Becomes k file now back) (sym none ∙ p.ends) p.becomes

  -- by the index that code holds
  pub put_here : {index : ℕ} → index ≡ k.holds.slot.held.index → (vs : List ℕ) (place : headers.Place) (first : ℕ) → ((m : ℕ) → m < length vs → ReachesByte k.f place (first + m))
      → {new : HostState} → IsPut h index (put_run vs (place_of place first)) new → Becomes k (put_run vs (place_of place first) k.f.file) new gs
  put_here is vs place first reach {new} put = put_all vs k place first reach (subst (λ (x : ℕ). IsPut h x (put_run vs (place_of place first)) new) is put)

-- ---- lists

pub any_there : {A : Type 0} (t : A → Bool) (xs : List A) (j : ℕ) (x : A) → slice_get xs j ≡ Some x → t x ≡ true → list_any t xs ≡ true
any_there t [] j x at is = cc
any_there t (y ∷ ys) zero x at is = grind arith
any_there t (y ∷ ys) (suc j) x at is = grind (arith, any_there t ys j x at is)

-- ---- the bytes that a device reaches

config_reached : (f : Function) (off : ℕ) → off < 256 → is_device_byte (config off) ≡ true → ReachesByte f Cfg off
config_reached f off low own = grind (arith, lt-ltb)

pub status_reached : (f : Function) (m : ℕ) → m < 2 → ReachesByte f Cfg (6 + m)
status_reached f zero low = record { reaches = refl; own = refl }
status_reached f (suc zero) low = record { reaches = refl; own = refl }
status_reached f (suc (suc m)) low = absurd (omega arith)

few_taken : (n : ℕ) (xs : List ℕ) → length (take n xs) ≤ n
few_taken zero xs = omega arith
few_taken (suc n) [] = omega arith
few_taken (suc n) (x ∷ xs) = let few = few_taken n xs in omega arith

own_byte : (off : ℕ) → (0x40 ≤ off) ⊎ (off ≡ 0x34) → is_device_byte (config off) ≡ true
own_byte off (inl low) = grind (arith, nat_tests)
own_byte off (inr is) = subst (λ (n : ℕ). is_device_byte (config n) ≡ true) (sym is) refl

pub block_reached : (f : Function) (b : ConfigBlock) → IsConfigBlock b → (m : ℕ) → m < length b.cells → ReachesByte f Cfg (b.offset + m)
block_reached f b is m low = let ends = is.ends in config_reached f (b.offset + m) (omega (arith, ends)) (own_byte (b.offset + m) (byte_in_place b.offset (length b.cells) (b.offset + m) is.in_place (omega arith) (omega (arith, low))))

pub region_reached : (f : Function) (j : ℕ) (r : Region) → slice_get f.decl.regions j ≡ Some r → IsLawfulRegion r → (m : ℕ) → m < length r.cells → ReachesByte f (Bar r.index) (0 + m)
region_reached f j r at is m low =
    let fits = is.block_fits in
    let here : nat_lt m r.size ≡ true = lt-ltb m r.size (omega arith) in
    let itself : (r.index == r.index && nat_lt m r.size) ≡ true = grind (arith, nat_tests) in
    let any : list_any (λ (s : Region). s.index == r.index && nat_lt m s.size) f.decl.regions ≡ true = any_there (λ (s : Region). s.index == r.index && nat_lt m s.size) f.decl.regions j r at itself in
    record { reaches = grind (arith, any); own = refl }

pub status_put : {h : HostState} {gs : List Guest} {i n : ℕ} (k : KeepsFunction h gs i n) {index : ℕ} → index ≡ k.holds.slot.held.index → (vs : List ℕ)
    → {new : HostState} → IsPut h index (put_run (take 2 vs) (config 6)) new → Becomes k (put_run (take 2 vs) (config 6) k.f.file) new gs
status_put k is vs put = put_here k is (take 2 vs) Cfg 6 (λ m low. status_reached k.f m (let few = few_taken 2 vs in omega arith)) put

-- ---- a block, and a region

-- what is told of one: where it begins, and how many cells it has
pub record IsBlockAt (d : Endpoint) (m : ℕ) (told : ℕ × ℕ) : Type 0 where
  pub b : ConfigBlock
  pub there : slice_get d.blocks m ≡ Some b
  pub is : told ≡ (b.offset, length b.cells)

module _ {h : HostState} {gs : List Guest} {i n : ℕ} (k : KeepsFunction h gs i n) {index : ℕ} (is : index ≡ k.holds.slot.held.index) where
  row : endpoint_nth h.state.functions index ≡ Some (its_row k).0
  row = ap (endpoint_nth h.state.functions) is ∙ (its_row k).1

  decl : (its_row k).0.decl ≡ k.f.decl
  decl = its_decl k (its_row k).0 (its_row k).1

  pub told_blocks : {count : ℕ} → ((e : Function) → endpoint_nth h.state.functions index ≡ Some e → count ≡ length e.decl.blocks) → count ≡ length k.f.decl.blocks
  told_blocks tells = tells (its_row k).0 row ∙ ap (λ (d : Endpoint). length d.blocks) decl

  pub told_regions : {count : ℕ} → ((e : Function) → endpoint_nth h.state.functions index ≡ Some e → count ≡ length e.decl.regions) → count ≡ length k.f.decl.regions
  told_regions tells = tells (its_row k).0 row ∙ ap (λ (d : Endpoint). length d.regions) decl

  module _ (m : ℕ) (low : m < length k.f.decl.blocks) where
    block_there : (b : ConfigBlock) × (slice_get k.f.decl.blocks m ≡ Some b)
    block_there = at_below k.f.decl.blocks m low

    block_in_row : slice_get (its_row k).0.decl.blocks m ≡ Some block_there.0
    block_in_row = ap (λ (d : Endpoint). slice_get d.blocks m) decl ∙ block_there.1

    pub some_block : (e : Function) × (b : ConfigBlock) × (endpoint_nth h.state.functions index ≡ Some e) × (slice_get e.decl.blocks m ≡ Some b)
    some_block = ((its_row k).0, block_there.0, row, block_in_row)

    pub block_told : {told : ℕ × ℕ} → ((e : Function) (b : ConfigBlock) → endpoint_nth h.state.functions index ≡ Some e → slice_get e.decl.blocks m ≡ Some b → told ≡ (b.offset, length b.cells)) → IsBlockAt k.f.decl m told
    block_told tells = record { b = block_there.0; there = block_there.1; is = tells (its_row k).0 block_there.0 row block_in_row }

  module _ (m : ℕ) (r : Region) (there : slice_get k.f.decl.regions m ≡ Some r) where
    region_in_row : slice_get (its_row k).0.decl.regions m ≡ Some r
    region_in_row = ap (λ (d : Endpoint). slice_get d.regions m) decl ∙ there

    pub some_region : (e : Function) × (x : Region) × (endpoint_nth h.state.functions index ≡ Some e) × (slice_get e.decl.regions m ≡ Some x)
    some_region = ((its_row k).0, r, row, region_in_row)

    pub region_told : {told : ℕ × ℕ × ℕ} → ((e : Function) (x : Region) → endpoint_nth h.state.functions index ≡ Some e → slice_get e.decl.regions m ≡ Some x → told ≡ (x.index, base_size x, length x.cells))
        → told ≡ (r.index, base_size r, length r.cells)
    region_told tells = tells (its_row k).0 r row region_in_row

-- ---- blocks and regions, from one on

pub record AtBlock {h : HostState} {gs : List Guest} {i n : ℕ} (k : KeepsFunction h gs i n) (values : List ℕ) (m count : ℕ) (left : List ℕ) (now : HostState) (back : List Guest) : Type 0 where
  pub passed : Passed k (blocks_steps k.f.decl.blocks values k.f.file) (blocks_steps (drop m k.f.decl.blocks) left) now back
  pub after : drop (blocks_size (drop m k.f.decl.blocks)) left ≡ drop (blocks_size k.f.decl.blocks) values
  pub enough : blocks_size (drop m k.f.decl.blocks) ≤ length left
  pub many : count ≡ length k.f.decl.blocks

pub record AtRegion {h : HostState} {gs : List Guest} {i n : ℕ} (k : KeepsFunction h gs i n) (values : List ℕ) (m count : ℕ) (left : List ℕ) (now : HostState) (back : List Guest) : Type 0 where
  pub passed : Passed k (regions_steps k.f.decl.regions values k.f.file) (regions_steps (drop m k.f.decl.regions) left) now back
  pub enough : regions_size (drop m k.f.decl.regions) ≤ length left
  pub many : count ≡ length k.f.decl.regions

module _ {h : HostState} {gs : List Guest} {i n : ℕ} (k : KeepsFunction h gs i n) {values : List ℕ} {count : ℕ} where
  pub first_block : blocks_size k.f.decl.blocks ≤ length values → count ≡ length k.f.decl.blocks → AtBlock k values 0 count values h gs
  first_block enough many = record { passed = begins k (blocks_steps k.f.decl.blocks values); after = refl; enough = enough; many = many }

  pub first_region : regions_size k.f.decl.regions ≤ length values → count ≡ length k.f.decl.regions → AtRegion k values 0 count values h gs
  first_region enough many = record { passed = begins k (regions_steps k.f.decl.regions values); enough = enough; many = many }

module _ {h : HostState} {gs : List Guest} {i n : ℕ} (k : KeepsFunction h gs i n) {values : List ℕ} {m count : ℕ} {left : List ℕ} {now : HostState} {back : List Guest} where
  module _ (at : AtBlock k values m count left now back) (past : count ≤ m) where
    none : drop m k.f.decl.blocks ≡ []
    none = let many = at.many in drop_all m k.f.decl.blocks (omega arith)

    pub last_block : Becomes k (blocks_steps k.f.decl.blocks values k.f.file) now back
    last_block = finishes k at.passed (ap (λ (xs : List ConfigBlock). blocks_steps xs left at.passed.file) none)

    pub last_left : left ≡ drop (blocks_size k.f.decl.blocks) values
    last_left = sym (ap (λ (xs : List ConfigBlock). drop (blocks_size xs) left) none) ∙ at.after

  pub last_region : AtRegion k values m count left now back → count ≤ m → Becomes k (regions_steps k.f.decl.regions values k.f.file) now back
  last_region at past = grind (arith, finishes, drop_all, decl)

  module _ (at : AtBlock k values m count left now back) {told : ℕ × ℕ} (block : IsBlockAt k.f.decl m told) where
    abbrev bs : List ConfigBlock
    bs = k.f.decl.blocks

    abbrev b : ConfigBlock
    b = block.b

    split : drop m bs ≡ b ∷ drop (m + 1) bs
    split = drop_at m bs b block.there

    size : told.1 ≡ length b.cells
    size = ap (λ (x : ℕ × ℕ). x.1) block.is

    lawful_block : IsConfigBlock b
    lawful_block = each_at IsConfigBlock bs m b (its_lawful k).config_blocks block.there

    pub block_fits : told.1 ≤ length left
    block_fits = let sum = ap blocks_size split in let s = size in omega (arith, at.enough)

    pub block_low : told.0 + length (take told.1 left) < 2 ^ 63
    block_low = grind (arith, size, few_taken, lawful_block)

    block_reaches : (f : Function) (j : ℕ) → j < length (take told.1 left) → ReachesByte f Cfg (told.0 + j)
    block_reaches f j low = grind (arith, few_taken, size, block_reached, lawful_block)

    pub block_own : (j : ℕ) → j < length (take told.1 left) → is_device_byte (config (told.0 + j)) ≡ true
    block_own j low = (block_reaches k.f j low).own

    pub next_block : {index : ℕ} → index ≡ at.passed.becomes.holds.slot.held.index → {new : HostState} → IsPut now index (put_run (take told.1 left) (config told.0)) new
        → AtBlock k values (m + 1) count (drop told.1 left) new back
    next_block is {new} put =
        let becomes = put_here (go_on k at.passed.becomes) is (take told.1 left) Cfg told.0 (block_reaches (go_on k at.passed.becomes).f) put in
        subst (λ (x : ℕ × ℕ). Becomes (go_on k at.passed.becomes) (put_run (take x.1 left) (config x.0) at.passed.file) new back → AtBlock k values (m + 1) count (drop x.1 left) new back)
        (sym block.is) (λ becomes. record {
          passed = passes k at.passed (blocks_steps (drop (m + 1) bs) (drop (length b.cells) left)) becomes (ap (λ (xs : List ConfigBlock). blocks_steps xs left at.passed.file) split);
          after = drop-drop (blocks_size (drop (m + 1) bs)) (length b.cells) left ∙ ap (λ (xs : List ConfigBlock). drop (blocks_size xs) left) (sym split) ∙ at.after;
          enough = let sum = ap blocks_size split in let many = length-drop (length b.cells) left in omega (arith, at.enough);
          many = at.many;
        }) becomes

  module _ (at : AtRegion k values m count left now back) (r : Region) (there : slice_get k.f.decl.regions m ≡ Some r) where
    abbrev rs : List Region
    rs = k.f.decl.regions

    split_region : drop m rs ≡ r ∷ drop (m + 1) rs
    split_region = drop_at m rs r there

    pub region_fits : base_size r + length r.cells ≤ length left
    region_fits = let sum = ap regions_size split_region in omega (arith, at.enough)

    pub next_region : {new : HostState} {gone : List Guest} → Becomes (go_on k at.passed.becomes) (region_steps r left at.passed.file) new gone
        → AtRegion k values (m + 1) count (drop (base_size r + length r.cells) left) new gone
    next_region {new} {gone} becomes = record {
      passed = passes k at.passed (regions_steps (drop (m + 1) rs) (drop (base_size r + length r.cells) left)) becomes (ap (λ (xs : List Region). regions_steps xs left at.passed.file) split_region);
      enough = let sum = ap regions_size split_region in let many = length-drop (base_size r + length r.cells) left in omega (arith, at.enough);
      many = at.many;
    }

-- ---- one region

module _ {h : HostState} {gs : List Guest} {i n : ℕ} (k : KeepsFunction h gs i n) (m : ℕ) (r : Region) (there : slice_get k.f.decl.regions m ≡ Some r) {told : ℕ × ℕ × ℕ} (is : told ≡ (r.index, base_size r, length r.cells)) where
  lawful_region : IsLawfulRegion r
  lawful_region = each_at IsLawfulRegion k.f.decl.regions m r (its_lawful k).regions.each there

  -- among the six
  pub low_register : told.0 + registers_of r.kind ≤ 6
  low_register = let a = ap (λ (x : ℕ × ℕ × ℕ). x.0) is in omega (arith, lawful_region.registers)

  pub told_width : told.1 ≡ 4 * registers_of r.kind
  told_width = ap (λ (x : ℕ × ℕ × ℕ). x.1) is

  pub told_cells : told.2 ≡ length r.cells
  told_cells = ap (λ (x : ℕ × ℕ × ℕ). x.2) is

  pub narrow : told.1 ≤ 8
  narrow = let few = few_registers r.kind in let w = told_width in omega arith

  region_reaches : (f : Function) → f.decl ≡ k.f.decl → (vs : List ℕ) (j : ℕ) → j < length (take told.2 vs) → ReachesByte f (Bar told.0) (0 + j)
  region_reaches f same vs j low = grind (arith, few_taken, told_cells, decl, region_reached, lawful_region)

  pub region_done : (values : List ℕ) {mid new : HostState} {gone : List Guest} → (written : Becomes k (written_run (take told.1 values) (config (0x10 + 4 * told.0)) k.f.file) mid gone)
      → {index : ℕ} → index ≡ written.holds.slot.held.index → IsPut mid index (put_run (take told.2 (drop told.1 values)) (block told.0 0)) new → Becomes k (region_steps r values k.f.file) new gone
  region_done values {mid} {new} {gone} written index put =
      let cells = put_here (go_on k written) index (take told.2 (drop told.1 values)) (Bar told.0) 0 (region_reaches (go_on k written).f refl (drop told.1 values)) put in
      subst (λ (x : ℕ × ℕ × ℕ). Becomes k (put_run (take x.2 (drop x.1 values)) (block x.0 0) (written_run (take x.1 values) (config (0x10 + 4 * x.0)) k.f.file)) new gone) is (chained k written cells)

-- ---- how many values

fit_length : (file : File) (vs : List ℕ) → fit_cells file vs ≡ true → length vs ≡ length file
fit_length [] [] h = refl
fit_length [] (v ∷ vs) h = cc
fit_length (e ∷ es) [] h = cc
fit_length (e ∷ es) (v ∷ vs) h = ap suc (fit_length es vs (right_true (can_hold e v) (fit_cells es vs) h))

blocks_count : (bs : List ConfigBlock) → length (flat_map block_cells bs) ≡ blocks_size bs
blocks_count [] = refl
blocks_count (b ∷ bs) = grind (arith, length-append, many_cells, blocks_count bs)

regions_count : (rs : List Region) → length (flat_map (region_cells (λ r. 0)) rs) ≡ regions_size rs
regions_count [] = refl
regions_count (r ∷ rs) = grind (arith, length-append, region_cell_count, regions_count rs)

many_values : (f : Function) (vs : List ℕ) → fit_cells (endpoint_reset f.decl false) vs ≡ true → length vs ≡ header_values + blocks_size f.decl.blocks + regions_size f.decl.regions
many_values f vs fits =
    let all = cells_count f.decl f.decl.regions f.decl.blocks refl refl in
    let a = blocks_count f.decl.blocks in
    let b = regions_count f.decl.regions in
    fit_length (endpoint_reset f.decl false) vs fits ∙ omega arith

-- how many are left after the header, and after the blocks
module _ {h : HostState} {gs : List Guest} {i n : ℕ} (k : KeepsFunction h gs i n) {values : List ℕ} (l : IsLoadable k values) where
  pub enough_header : header_values ≤ length values
  enough_header = let many = many_values k.f values l.fits in omega arith

  module _ (rest : List ℕ) (back : length rest + header_values ≡ length values) where
    pub enough_blocks : blocks_size k.f.decl.blocks ≤ length rest
    enough_blocks = let many = many_values k.f values l.fits in omega arith

    pub enough_regions : {left : List ℕ} → left ≡ drop (blocks_size k.f.decl.blocks) rest → regions_size k.f.decl.regions ≤ length left
    enough_regions {left} is = grind (arith, many_values, length-drop, decl)

-- ---- all parts

pub all_parts : {h : HostState} {gs : List Guest} {i n : ℕ} (k : KeepsFunction h gs i n) (values rest left : List ℕ) {first second last : HostState} {one two three : List Guest}
    → (header : Becomes k (header_steps values k.f.file) first one) → (blocks : Becomes (go_on k header) (blocks_steps k.f.decl.blocks rest (header_steps values k.f.file)) second two)
    → Becomes (go_on (go_on k header) blocks) (regions_steps k.f.decl.regions left (blocks_steps k.f.decl.blocks rest (header_steps values k.f.file))) last three
    → rest ≡ drop header_values values → left ≡ drop (blocks_size k.f.decl.blocks) rest → Becomes k (steps k.f.decl values k.f.file) last three
all_parts k values rest left {first} {second} {last} {one} {two} {three} header blocks regions rest_is left_is =
    let d : Endpoint = k.f.decl in
    let file : File = header_steps values k.f.file in
    let all = chained k header (chained (go_on k header) blocks regions) in
    let left_over : left ≡ drop (header_values + blocks_size d.blocks) values = left_is ∙ ap (drop (blocks_size d.blocks)) rest_is ∙ drop-drop (blocks_size d.blocks) header_values values in
    subst (λ (vs : List ℕ). Becomes k (regions_steps d.regions (drop (header_values + blocks_size d.blocks) values) (blocks_steps d.blocks vs file)) last three) rest_is
    (subst (λ (vs : List ℕ). Becomes k (regions_steps d.regions vs (blocks_steps d.blocks rest file)) last three) left_over all)
