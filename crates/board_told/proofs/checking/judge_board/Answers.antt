use Rattle.std.proofs.Common.{ap, ◌∙◌}
use Rattle.model_guests.specs.World.{World}
use Rattle.board_file.specs.Meaning.{world_in, document_meaning}
use Rattle.session.specs.Files.{Declares}
use Rattle.board_told.proofs.Accepted.{fault_of}
use Rattle.board_told.proofs.checking.judge_board.Goals as goal

pub returns : goal.returns
returns c =
    let board = c.args.source.now.bytes.now in
    let w : World = world_in c.args.host c.requires.declared.0 in
    let declared : Declares board w = record {
      is_text = c.requires.read.is_text;
      meaning = ap document_meaning c.requires.read.parsed ∙ c.requires.declared.1;
    } in
    fault_of board w c.in_ok-verdict.verdict.fault _ c.in_ok-verdict.ensures.known declared c.in_ok-verdict.ensures.verdict.rule c.wrap_set_up_fault-fault.ensures
