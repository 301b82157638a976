-- What modules and programs have in common (IEEE 1800-2017, A.1.2).
use Rattle.sv_grammar.specs.Tokens.{Tok}
use Rattle.sv_grammar.specs.Code.Code.{Seq, Rep}
use Rattle.sv_tree.specs.declared.kind.Kind.{Kind}
use Rattle.sv_tree.specs.Items as items
use Rattle.sv_tree.specs.Forms.{C, ◌▸◌, label, name, quadruple}
use Rattle.sv_tree.specs.UnitGrammar.{element_head, element_of, maybe_life}

-- what follows the word at the front: [life] id [pports] [ports] ";" {item} end [":" id]
abbrev pub element_rest : C items.Item → Kind → C (Tok → items.DesignElement)
element_rest item end = quadruple (λ ln pp is l t. element_of t ln pp is l) (Seq maybe_life name) element_head (Rep item) (end ▸ label)
