use Rattle.line_parser.proofs.names.Laws.{name_first, name_none}
use Rattle.line_parser.proofs.fields.Laws.{first_part}
use Rattle.line_parser.proofs.names.read_name.Goals as goal

pub slice_bounds-field-end : goal.slice_bounds-field-end
slice_bounds-field-end c = first_part _ _ c.field_len.ensures

pub returns-then-is_name : goal.returns-then-is_name
returns-then-is_name c =
    name_first _ _ _ c.field_len.ensures c.is_name.ensures c.if-is_name.true

pub returns-else-is_name : goal.returns-else-is_name
returns-else-is_name c =
    name_none _ _ _ c.field_len.ensures c.is_name.ensures c.if-is_name.false
