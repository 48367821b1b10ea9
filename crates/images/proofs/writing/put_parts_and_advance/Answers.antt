use Rattle.std.{proofs.Common.{◌≡◌, ◌+◌, ◌%◌, ◌++◌, ◌∙◌, List, [], ◌∷◌, ℕ, length, ap, arith}, specs.Prelude.flat_map}
use Rattle.model_images.{specs.Layouts.le_bytes, proofs.{BlockCounts.block_count, Savable.region_count}}
use Rattle.images.{specs.{Parts.{endpoint_head, region_bytes, block_bytes}, Puts.put}, proofs.Puts.next}
use Rattle.images.proofs.writing.put_parts_and_advance.Goals as goal

pub endpoint_head_bytes-requires : goal.endpoint_head_bytes-requires
endpoint_head_bytes-requires c = let few = region_count c.args.decl.now c.values-values.ensures.lawful in omega arith

pub overflow_cast-len : goal.overflow_cast-len
overflow_cast-len c = let few = block_count c.args.decl.now c.values-values.ensures.lawful in grind arith

pub returns-clause-bytes : goal.returns-clause-bytes
returns-clause-bytes c =
    let d = c.args.decl.now in
    let few = block_count d c.values-values.ensures.lawful in
    let regions : List ℕ = flat_map region_bytes d.regions in
    let count : List ℕ = le_bytes 1 (length d.blocks) in
    let blocks : List ℕ = flat_map block_bytes d.blocks in
    let first : c.put_bytes_and_advance-next.new.out ≡ put c.args.at (endpoint_head d) c.args.out.now = grind arith in
    let first_end : c.put_bytes_and_advance-next.result ≡ c.args.at + length (endpoint_head d) = grind arith in
    let second : c.put_regions_and_advance-next.new.out ≡ put c.put_bytes_and_advance-next.result regions c.put_bytes_and_advance-next.new.out = grind arith in
    let second_end : c.put_regions_and_advance-next.result ≡ c.put_bytes_and_advance-next.result + length regions = grind arith in
    let one : c.len.result ≡ length d.blocks % 256 = grind arith in
    let third : c.put_bytes_and_advance-next-2.new.out ≡ put c.put_regions_and_advance-next.result count c.put_regions_and_advance-next.new.out =
    c.put_bytes_and_advance-next-2.ensures.bytes ∙ ap (λ x. put c.put_regions_and_advance-next.result (x ∷ []) c.put_regions_and_advance-next.new.out) one in
    let third_end : c.put_bytes_and_advance-next-2.result ≡ c.put_regions_and_advance-next.result + length count = c.put_bytes_and_advance-next-2.ensures.end in
    let last : c.put_blocks_and_advance.new.out ≡ put c.put_bytes_and_advance-next-2.result blocks c.put_bytes_and_advance-next-2.new.out = grind arith in
    let a = next c.args.at c.put_bytes_and_advance-next.result (endpoint_head d) (regions ++ (count ++ blocks)) c.args.out.now c.put_bytes_and_advance-next.new.out first first_end c.requires in
    let b = next c.put_bytes_and_advance-next.result c.put_regions_and_advance-next.result regions (count ++ blocks) c.put_bytes_and_advance-next.new.out c.put_regions_and_advance-next.new.out second second_end a.room in
    let e = next c.put_regions_and_advance-next.result c.put_bytes_and_advance-next-2.result count blocks c.put_regions_and_advance-next.new.out c.put_bytes_and_advance-next-2.new.out third third_end b.room in
    last ∙ e.bytes ∙ b.bytes ∙ a.bytes
