mod PathLaws
mod ScopeLaws
mod NameLaws
mod StandLaws
