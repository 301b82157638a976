-- What a file consists of, as it is written (IEEE 1800-2017, A.1.2).
use Rattle.sv_tree.specs.Items as items

-- a description
pub data Description : Type 0 where
  Module : items.DesignElement → Description
  Program : items.DesignElement → Description
  Item : items.Item → Description
