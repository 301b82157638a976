mod AloneLaws
mod ListLaws
mod VariableLaws
