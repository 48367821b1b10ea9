use Rattle.monitor.proofs.{LoadSteps.go_on, LoadedParts.{all_parts, enough_blocks, enough_header, enough_regions}}
use Rattle.monitor.proofs.saved.load_function.load_registers.Goals as goal

pub load_header-requires-clause-enough : goal.load_header-requires-clause-enough
load_header-requires-clause-enough c = enough_header c.requires.0 c.requires.1

pub split_at-requires : goal.split_at-requires
split_at-requires c = enough_header c.requires.0 c.requires.1

pub load_blocks_and_advance-left-requires : goal.load_blocks_and_advance-left-requires
load_blocks_and_advance-left-requires c = (go_on c.requires.0 (c.load_header.ensures.becomes c.requires.0), enough_blocks c.requires.0 c.requires.1 c.split_at.result.1.now c.split_at.ensures.back_len)

pub load_regions-requires : goal.load_regions-requires
load_regions-requires c =
    let header = go_on c.requires.0 (c.load_header.ensures.becomes c.requires.0) in
    let enough = enough_blocks c.requires.0 c.requires.1 c.split_at.result.1.now c.split_at.ensures.back_len in
    (go_on header (c.load_blocks_and_advance-left.ensures.becomes header enough), enough_regions c.requires.0 c.requires.1 c.split_at.result.1.now c.split_at.ensures.back_len (c.load_blocks_and_advance-left.ensures.left header enough))

pub returns-clause-becomes : goal.returns-clause-becomes
returns-clause-becomes c = λ k l.
    let one = c.load_header.ensures.becomes k in
    let header = go_on k one in
    let enough = enough_blocks k l c.split_at.result.1.now c.split_at.ensures.back_len in
    let two = c.load_blocks_and_advance-left.ensures.becomes header enough in
    let left = c.load_blocks_and_advance-left.ensures.left header enough in
    let three = c.load_regions.ensures.becomes (go_on header two) (enough_regions k l c.split_at.result.1.now c.split_at.ensures.back_len left) in
    all_parts k c.args.values.now c.split_at.result.1.now c.load_blocks_and_advance-left.result.now one two three c.split_at.ensures.back left
