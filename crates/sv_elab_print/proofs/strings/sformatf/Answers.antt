use Rattle.sv_elab_print.proofs.TextLaws.{format_fails, format_whole}
use Rattle.sv_elab_print.proofs.strings.sformatf.Goals as goal

pub returns-in-Ok : goal.returns-in-Ok
returns-in-Ok c =
    format_whole c.args.at c.args.args c.as_slice.result.now c.in-Ok.pieces c.formatted.result c.as_slice.ensures c.in-Ok.ensures c.formatted.ensures

pub returns-in-Err : goal.returns-in-Err
returns-in-Err c = format_fails c.args.at c.args.args c.as_slice.result.now c.in-Err.e c.as_slice.ensures c.in-Err.ensures
