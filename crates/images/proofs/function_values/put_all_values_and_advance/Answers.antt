use Rattle.std.{proofs.Common.{◌≡◌, ◌+◌, ◌++◌, ◌∙◌, List, ℕ, length, arith}, specs.Prelude.flat_map}
use Rattle.images.{specs.{Puts.put, Shown.{block_values, header_values, region_values}}, proofs.{Puts.next, Runs.{header_length, values_length}}}
use Rattle.images.proofs.function_values.put_all_values_and_advance.Goals as goal

pub put_non_bar_header_and_advance-next-requires : goal.put_non_bar_header_and_advance-next-requires
put_non_bar_header_and_advance-next-requires c = let whole = values_length c.args.endpoint.now c.args.own.now c.args.endpoint.now.decl in omega (arith, c.requires)

pub put_values_of_blocks_and_advance-next-requires-clause-room : goal.put_values_of_blocks_and_advance-next-requires-clause-room
put_values_of_blocks_and_advance-next-requires-clause-room c = grind (arith, values_length)

pub put_values_of_regions_and_advance-requires-clause-room : goal.put_values_of_regions_and_advance-requires-clause-room
put_values_of_regions_and_advance-requires-clause-room c = grind (arith, values_length)

pub returns-clause-end : goal.returns-clause-end
returns-clause-end c = grind (arith, values_length)

pub returns-clause-bytes : goal.returns-clause-bytes
returns-clause-bytes c =
    let e = c.args.endpoint.now in
    let own = c.args.own.now in
    let head : List ℕ = header_values e own in
    let blocks : List ℕ = flat_map (block_values e own) e.decl.blocks in
    let regions : List ℕ = flat_map (region_values e own) e.decl.regions in
    let many = header_length e own in
    let first : c.put_non_bar_header_and_advance-next.new.out ≡ put c.args.at head c.args.out.now = c.put_non_bar_header_and_advance-next.ensures.bytes in
    let first_end : c.put_non_bar_header_and_advance-next.result ≡ c.args.at + length head = grind arith in
    let second : c.put_values_of_blocks_and_advance-next.new.out ≡ put c.put_non_bar_header_and_advance-next.result blocks c.put_non_bar_header_and_advance-next.new.out = grind arith in
    let second_end : c.put_values_of_blocks_and_advance-next.result ≡ c.put_non_bar_header_and_advance-next.result + length blocks = grind arith in
    let last : c.put_values_of_regions_and_advance.new.out ≡ put c.put_values_of_blocks_and_advance-next.result regions c.put_values_of_blocks_and_advance-next.new.out = grind arith in
    let a = next c.args.at c.put_non_bar_header_and_advance-next.result head (blocks ++ regions) c.args.out.now c.put_non_bar_header_and_advance-next.new.out first first_end c.requires in
    let b = next c.put_non_bar_header_and_advance-next.result c.put_values_of_blocks_and_advance-next.result blocks regions c.put_non_bar_header_and_advance-next.new.out c.put_values_of_blocks_and_advance-next.new.out second second_end a.room in
    last ∙ b.bytes ∙ a.bytes
