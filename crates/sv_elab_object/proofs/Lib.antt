mod KnownLaws
mod LocalLaws
