-- The laws of this crate, as they are stated.
use Rattle.account_blocks.specs.Statements.{SendsKeep, ReceivesKeep, ArrivalsKeep, EndsKeep, ClosesKeep, LeavesKeep}
use Rattle.account_blocks.proofs.Moving.{has_one}
use Rattle.account_blocks.proofs.Sending.{send_keeps}
use Rattle.account_blocks.proofs.Receiving.{receive_keeps}
use Rattle.account_blocks.proofs.Arriving.{arrive_keeps}
use Rattle.account_blocks.proofs.Ending.{end_keeps}
use Rattle.account_blocks.proofs.Closing.{close_keeps}
use Rattle.account_blocks.proofs.Leaving.{leave_keeps}

pub sends_keep : SendsKeep
sends_keep p w a sound framed i b position f m span rest at mode =
    send_keeps p w a sound framed i (a.threads.live i (has_one (w.threads i).frames f _ at.stack)) f at.stack b position at.role m
    span rest at.stands mode

pub receives_keep : ReceivesKeep
receives_keep p w a sound framed i b position f m span rest at once mode =
    receive_keeps p w a sound framed i (a.threads.live i (has_one (w.threads i).frames f _ at.stack)) f at.stack b position
    at.role m span rest at.stands once mode

pub arrivals_keep : ArrivalsKeep
arrivals_keep p w a sound framed i b position f barrier span rest at alike mode =
    arrive_keeps p w a sound framed i (a.threads.live i (has_one (w.threads i).frames f _ at.stack)) f at.stack b position at.role
    barrier span rest at.stands alike mode

pub ends_keep : EndsKeep
ends_keep p w a sound framed i b position f at mode =
    end_keeps p w a sound framed i (a.threads.live i (has_one (w.threads i).frames f _ at.stack)) f at.stack b position at.role
    at.stands mode

pub closes_keep : ClosesKeep
closes_keep p w a sound framed i f below stack c rest tasks mode =
    close_keeps p w a sound framed i (a.threads.live i (has_one (w.threads i).frames f below stack)) f below stack c rest tasks
    mode

pub leaves_keep : LeavesKeep
leaves_keep p w a sound framed i b position f barrier span rest at each mode =
    leave_keeps p w a sound framed i (a.threads.live i (has_one (w.threads i).frames f _ at.stack)) f at.stack b position at.role
    barrier span rest at.stands each mode
